-- Errors of the code that are faults of reading.
use Rattle.std.proofs.Common.{◌≡◌, Err, ap, sym, ◌∙◌}
use Rattle.job_words.specs.declared.causes.JobCause.{JobCause}
use Rattle.job_lang.specs.declared.reading.ReadError.{ReadError}
use Rattle.job_lang.specs.declared.reading.ReadError.TheVariants.{Fault, Memory}
use Rattle.job_lang.specs.Fields.{Reading, IsCause, Fails}

pub cause_given : {A : Type 0} (error : ReadError) (cause : JobCause) (read : Reading A) → IsCause error cause → read ≡ Err cause → Fails error read
cause_given Memory cause read is given = tt
cause_given (Fault c) cause read is given = given ∙ ap Err (sym is)
