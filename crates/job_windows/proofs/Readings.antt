-- What a line comes to, from what reading it gives.
use Rattle.std.proofs.Common.{◌≡◌, ℕ, ◌<◌, Bool, true, false, cond, List, length, Ok, Err, sym, ap, ◌∙◌, arith}
use Rattle.std.specs.Prelude.{Option, Some, None}
use Rattle.std.proofs.lemmas.Bool.Decides.{nat_tests}
use Rattle.job_lang.specs.declared.jobs.Job.{Job}
use Rattle.job_lang.specs.declared.jobs.JobError.TheVariants.{Fault}
use Rattle.job_words.specs.declared.causes.JobCause.{JobCause}
use Rattle.job_lang.specs.Jobs.{reads_job, GivesJob}
use Rattle.session_laws.specs.Jobs.{max_line, is_too_long}
use Rattle.session_laws.specs.Answers.{too_long, unread, no_operation, Lookup, name_of, run_read, run_line}

module _ (line : List ℕ) where
  run_short : (lookup : Lookup) → is_too_long line ≡ false → run_line lookup line ≡ run_read lookup (reads_job line).name (reads_job line).op
  unfolding run_line
  run_short lookup short = ap (λ (b : Bool). cond b (no_operation too_long) (run_read lookup (reads_job line).name (reads_job line).op)) short

  name_short : is_too_long line ≡ false → name_of line ≡ (reads_job line).name
  unfolding name_of
  name_short short = ap (λ (b : Bool). cond b None ((reads_job line).name)) short

  pub job_named : (job : Job) → is_too_long line ≡ false → GivesJob (Ok job) (reads_job line) → Some job.name ≡ name_of line
  job_named job short given = sym (name_short short ∙ given.0)

  pub job_run : (lookup : Lookup) (job : Job) → is_too_long line ≡ false → GivesJob (Ok job) (reads_job line)
      → run_line lookup line ≡ run_read lookup (Some job.name) (Ok job.op)
  job_run lookup job short given = run_short lookup short ∙ (λ i. run_read lookup (given.0 i) (given.1 i))

  pub fault_named : (name : Option (List ℕ)) (cause : JobCause) → is_too_long line ≡ false → GivesJob (Err (Fault name cause)) (reads_job line) → name ≡ name_of line
  fault_named name cause short given = sym (name_short short ∙ given.0)

  pub fault_run : (lookup : Lookup) (name : Option (List ℕ)) (cause : JobCause) → is_too_long line ≡ false → GivesJob (Err (Fault name cause)) (reads_job line)
      → run_line lookup line ≡ no_operation (unread cause)
  fault_run lookup name cause short given = run_short lookup short ∙ (λ i. run_read lookup (given.0 i) (given.1 i))

  pub long_is : max_line < length line → is_too_long line ≡ true
  long_is long = grind (arith, nat_tests)

  pub long_run : (lookup : Lookup) → is_too_long line ≡ true → run_line lookup line ≡ no_operation too_long
  unfolding run_line
  long_run lookup long = ap (λ (b : Bool). cond b (no_operation too_long) (run_read lookup (reads_job line).name (reads_job line).op)) long

  pub long_name : is_too_long line ≡ true → name_of line ≡ None
  unfolding name_of
  long_name long = ap (λ (b : Bool). cond b None ((reads_job line).name)) long
