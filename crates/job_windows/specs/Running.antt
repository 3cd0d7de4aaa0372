-- What the jobs of a window are answered by those who run them.
--     Belongs      an outcome and what the job holds belong to an operation and the values given
--     IsConclusion      they are what a line came to
--     IsUnnamed      there was no memory for the name that a refusal shows
use Rattle.std.specs.Prelude.{◌≡◌, List, Option, Some}
use Rattle.cut_elim.specs.declared.desk.Desk.{Desk}
use Rattle.cut_elim.specs.Desks.{bench_of}
use Rattle.proof_subst.specs.Benches.{graph_of}
use Rattle.job_lang.specs.declared.jobs.Op.{Op}
use Rattle.reply_lines.specs.declared.replies.Outcome.{Outcome}
use Rattle.reply_lines.specs.declared.replies.Outcome.TheVariants.{Memory}
use Rattle.operation_laws.specs.Values.{Value}
use Rattle.operation_laws.specs.Running.{run}
use Rattle.held_values.specs.declared.held.Held.{Held}
use Rattle.held_values.specs.declared.held.Held.TheVariants as held
use Rattle.held_values.specs.Means.{sense, Fits, IsAnsweredTo}
use Rattle.session_laws.specs.Answers.{Request, Came, IsAllowed, outcome_of, value_of}

-- they belong to an operation over the values that its names stand for
abbrev pub Belongs : Op → List (Option Value) → Outcome → Option Value → Type 0
Belongs op given outcome meant = IsAnsweredTo outcome meant (run op given)

-- the values that may be given to the operations of a desk
abbrev pub FitsDesk : Desk → Held → Type 0
FitsDesk desk h = Fits (graph_of (bench_of desk)) h

-- the outcome and the value are those of what a line came to, which a line that asks for this may come to
pub record IsConclusion (outcome : Outcome) (h : Held) (r : Request) (came : Came) : Type 0 where
  pub allowed : IsAllowed r came
  pub outcome_is : outcome ≡ outcome_of came
  pub means : sense h ≡ Some (value_of came)

abbrev pub IsUnnamed : Outcome → Held → Type 0
IsUnnamed outcome h = (outcome ≡ Memory) × (h ≡ held.Refused)
