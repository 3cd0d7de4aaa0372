-- What the jobs of a session hold and what is answered to each: which answers a line may come to, after jobs that came to these.
--     JobFault      why a line asks for no operation
--     Came      what a job came to
--     values_for      the values that the names in an operation stand for
--     Request, run_line      what a line asks for
--     IsAllowed      what a line may come to
--     AsksOne      a line asks for what has one answer
--     Past      a job that has been answered
--     held_of      what the jobs hold, by name
--     AreAllowed      each job came to what its line may come to
use Rattle.std.specs.Prelude.{◌≡◌, ℕ, Bool, false, is_some, map, List, [], ◌∷◌, ◌++◌, Option, Some, None, Result, Ok, Err, if◌then◌else◌}
use Rattle.std.specs.Ordering.{eq_by_cmp}
use Rattle.fol.specs.Order.{text_cmp}
use Rattle.job_lang.specs.declared.jobs.Op.{Op}
use Rattle.job_words.specs.declared.causes.JobCause.{JobCause}
use Rattle.job_lang.specs.Jobs.{reads_job}
use Rattle.reply_lines.specs.declared.replies.Outcome.{Outcome}
use Rattle.reply_lines.specs.declared.replies.Outcome.TheVariants as outcomes
use Rattle.reply_lines.specs.OneLine.{is_want}
use Rattle.operation_laws.specs.Values.{Value, refused}
use Rattle.operation_laws.specs.Answers.{Answer, shown, held, Asked, May}
use Rattle.operation_laws.specs.Given.{or_else, base_name, names_in}
use Rattle.operation_laws.specs.Running.{run, HasOneAnswer}
use Rattle.session_laws.specs.Jobs.{is_too_long}

-- The line is too long, or isn't a job, or an earlier line has the job's name.
pub data JobFault : Type 0 where
  too_long : JobFault
  unread : JobCause → JobFault
  name_taken : JobFault

-- A line has a fault, or an operation is answered.
pub data Came : Type 0 where
  faulty : JobFault → Came
  answered : Answer → Came

-- A line asks for nothing, since it has a fault, or for what its operation does.
pub data Request : Type 0 where
  no_operation : JobFault → Request
  an_operation : Asked → Request

-- what the first job with a name holds, where there is one
abbrev pub Lookup : Type 0
Lookup = List ℕ → Option Value

-- the values that the names in an operation stand for, in the order in which its fields are read
abbrev pub values_for : Lookup → Op → List (Option Value)
values_for lookup op = map (λ text. lookup (base_name text)) (names_in op)

-- the name that a line has: none where its field isn't well formed, or where the line is too long to be read
unfoldable pub name_of : List ℕ → Option (List ℕ)
name_of line = if is_too_long line then None else (reads_job line).name

-- whether an earlier job has the name
abbrev pub is_taken : Lookup → Option (List ℕ) → Bool
is_taken lookup None = false
is_taken lookup (Some name) = is_some (lookup name)

-- a job that is read is run where its name is its own
abbrev pub run_read : Lookup → Option (List ℕ) → Result Op JobCause → Request
run_read lookup name (Err cause) = no_operation (unread cause)
run_read lookup name (Ok op) = if is_taken lookup name then no_operation name_taken else an_operation (run op (values_for lookup op))

-- what a line asks for, after jobs that hold these values
unfoldable pub run_line : Lookup → List ℕ → Request
run_line lookup line =
    if is_too_long line then no_operation too_long else run_read lookup (reads_job line).name (reads_job line).op

-- what a line may come to
abbrev pub IsAllowed : Request → Came → Type 0
IsAllowed (no_operation f) c = c ≡ faulty f
IsAllowed (an_operation asked) (faulty f) = ⊥
IsAllowed (an_operation asked) (answered a) = May asked a

-- the operation that the line asks for has one answer, want of memory aside
abbrev pub AsksOne : List ℕ → Type 0
AsksOne line = (op : Op) → (reads_job line).op ≡ Ok op → HasOneAnswer op

abbrev pub shown_fault : JobFault → Outcome
shown_fault too_long = outcomes.LineTooLong
shown_fault (unread cause) = outcomes.Reading cause
shown_fault name_taken = outcomes.NameTaken

-- what is replied to a job that came to this, and what it holds
abbrev pub outcome_of : Came → Outcome
outcome_of (faulty f) = shown_fault f
outcome_of (answered a) = shown a

abbrev pub value_of : Came → Value
value_of (faulty f) = refused
value_of (answered a) = held a

-- a job that has been answered: its line, and what it came to
pub record Past : Type 0 where
  pub line : List ℕ
  pub came : Came

-- a line as a job
abbrev pub job_of : List ℕ → Came → Past
job_of line came = record { line = line; came = came }

-- whether the reply to a job is want of memory
abbrev pub lacked : Past → Bool
lacked job = is_want (outcome_of job.came)

-- the lines of the jobs in the order in which they came: in a list of jobs the newest is first
abbrev pub in_order : List Past → List (List ℕ)
in_order [] = []
in_order (job ∷ earlier) = in_order earlier ++ job.line ∷ []

-- a value, where the name is q
abbrev pub named_value : List ℕ → Option (List ℕ) → Value → Option Value
named_value q None value = None
named_value q (Some name) value = if eq_by_cmp text_cmp name q then Some value else None

-- what the first of these jobs with a name holds
abbrev pub held_of : List Past → Lookup
held_of [] = λ q. None
held_of (job ∷ earlier) = λ q. or_else (held_of earlier q) (named_value q (name_of job.line) (value_of job.came))

-- each job came to what its line may come to after the jobs before it
abbrev pub AreAllowed : List Past → Type 0
AreAllowed [] = Unit {0}
AreAllowed (job ∷ earlier) = IsAllowed (run_line (held_of earlier) job.line) job.came × AreAllowed earlier
