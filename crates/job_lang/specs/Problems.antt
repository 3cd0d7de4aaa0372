-- Problems as fields, by the grammar of their texts.
use Rattle.std.specs.Prelude.{ℕ, codes, Result, Ok, Err}
use Rattle.tptp_problem.specs.declared.errors.ProblemKind.{ProblemKind}
use Rattle.tptp_problem.specs.declared.problems.Problem.{Problem}
use Rattle.tptp_problem.specs.Reading.{problem_reading}
use Rattle.serde_json.specs.Data.{Data}
use Rattle.job_lang.specs.declared.places.Place.TheVariants.{Top}
use Rattle.job_words.specs.declared.causes.JobCause.TheVariants.{Tptp}
use Rattle.job_lang.specs.Fields.{Reading, ◌>>=◌, text_at}

-- a text's fault as that of the job
abbrev pub in_text : {A : Type 0} → Result A (ℕ × ProblemKind) → Reading A
in_text (Ok a) = Ok a
in_text (Err e) = Err (Tptp e.0 e.1)

-- the member that is the text of a problem
abbrev pub problem_at : Data → Reading Problem
problem_at d = text_at Top (codes "text") d >>= λ text. in_text (problem_reading text)
