-- What reading a line gives of its job.
use Rattle.std.specs.Prelude.{◌≡◌, ℕ, List, Some, Ok}
use Rattle.job_lang.specs.FormedOps.{IsFormedOp}
use Rattle.session_laws.specs.Answers.{JobFault, no_operation, Lookup, shown_fault, name_of, run_read, run_line}
use Rattle.job_windows.specs.declared.reading.Reading.{Reading}
use Rattle.job_windows.specs.declared.reading.Reading.TheVariants.{Job, Refused}

-- the line asks for an operation, which is run where the job's name is its own, or it is refused
abbrev pub IsReading : List ℕ → Reading → Type 0
IsReading line (Job job) = (Some job.name ≡ name_of line) × IsFormedOp job.op × ((lookup : Lookup) → run_line lookup line ≡ run_read lookup (name_of line) (Ok job.op))
IsReading line (Refused name outcome) = (name ≡ name_of line) × ((fault : JobFault) × ((lookup : Lookup) → run_line lookup line ≡ no_operation fault) × (outcome ≡ shown_fault fault))
