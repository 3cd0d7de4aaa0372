-- The reply line of a job, and what it tells.
use Rattle.std.specs.Prelude.{ℕ, ◌+◌, Bool, List, length}
use Rattle.reply_lines.specs.declared.replies.Outcome.{Outcome}
use Rattle.reply_lines.specs.declared.replies.Outcome.TheVariants as outcomes
use Rattle.reply_lines.specs.declared.replies.Reply.{Reply}
use Rattle.reply_lines.specs.Replies.{line_of, is_ok_outcome}
use Rattle.session_laws.specs.Answers.{Past, name_of, outcome_of}

-- the reply to a job that comes after these; jobs are numbered from 1
abbrev pub reply_of : List Past → Past → Reply
reply_of earlier job = record { name = name_of job.line; n = length earlier + 1; outcome = outcome_of job.came }

-- the reply line with its newline
unfoldable pub reply_line : List Past → Past → List ℕ
reply_line earlier job = line_of (reply_of earlier job)

-- whether the reply is no error
unfoldable pub is_ok_reply : Past → Bool
is_ok_reply job = is_ok_outcome (outcome_of job.came)

-- the reductions that a reply tells of, as that to cut elimination does
abbrev pub reductions_in : Outcome → ℕ
reductions_in (outcomes.Reduced summary reductions) = reductions
reductions_in (outcomes.Proof summary) = 0
reductions_in (outcomes.Entries entries sequent) = 0
reductions_in (outcomes.Proves proves) = 0
reductions_in (outcomes.Steps steps) = 0
reductions_in (outcomes.Measure cuts nodes quants size) = 0
reductions_in (outcomes.Expansion summary) = 0
reductions_in (outcomes.Nodes flat) = 0
reductions_in (outcomes.Interpolant first formula second) = 0
reductions_in (outcomes.Herbrand count sequent) = 0
reductions_in (outcomes.Introduced summary shorter) = 0
reductions_in (outcomes.Definition symbol arity body) = 0
reductions_in (outcomes.Satisfiable atoms) = 0
reductions_in (outcomes.Unsatisfiable steps) = 0
reductions_in (outcomes.Saturated clauses) = 0
reductions_in (outcomes.Refuted steps) = 0
reductions_in outcomes.LineTooLong = 0
reductions_in (outcomes.Reading cause) = 0
reductions_in outcomes.NameTaken = 0
reductions_in (outcomes.UnknownName name) = 0
reductions_in (outcomes.Kind name) = 0
reductions_in outcomes.Empty = 0
reductions_in (outcomes.Step step cause) = 0
reductions_in (outcomes.Refutation step cause) = 0
reductions_in (outcomes.Quantified formula side) = 0
reductions_in (outcomes.Falsified atoms) = 0
reductions_in (outcomes.Node node cause) = 0
reductions_in (outcomes.Root root cause) = 0
reductions_in (outcomes.EigenTwice var) = 0
reductions_in (outcomes.EigenFree var) = 0
reductions_in (outcomes.Cycle vars) = 0
reductions_in (outcomes.Cut place) = 0
reductions_in (outcomes.Defined formula side) = 0
reductions_in (outcomes.Partition formula side) = 0
reductions_in (outcomes.NotPrenex formula side) = 0
reductions_in (outcomes.TooMany tuples) = 0
reductions_in (outcomes.DefTwice name) = 0
reductions_in (outcomes.DefFree var) = 0
reductions_in outcomes.DefLarge = 0
reductions_in (outcomes.NotGround clause) = 0
reductions_in outcomes.Rounds = 0
reductions_in outcomes.Budget = 0
reductions_in outcomes.Memory = 0

unfoldable pub reductions_shown : Past → ℕ
reductions_shown job = reductions_in (outcome_of job.came)
