-- What an elimination of cuts leaves in the table of its desk.
--     proof_in      the reference that a field for a proof is given
--     IsNoted      an elimination of cuts has noted the proof that it was given
--     is_done, is_reduced      an operation has a product; an outcome shows a proof without cuts
use Rattle.std.specs.Prelude.{ℕ, Bool, true, false, is_some, if◌then◌else◌, List, [], ◌∷◌, Option, Some, None}
use Rattle.std.specs.Option.{IsSomeAnd}
use Rattle.proof_graph.specs.References.{Reference}
use Rattle.cut_elim.specs.declared.desk.DeskPass.{DeskPass}
use Rattle.cut_elim.specs.Desks.{HasElimination}
use Rattle.job_lang.specs.declared.jobs.Op.{Op}
use Rattle.job_lang.specs.declared.jobs.Op.TheVariants as ops
use Rattle.reply_lines.specs.declared.replies.Outcome.{Outcome}
use Rattle.reply_lines.specs.declared.replies.Outcome.TheVariants as outcomes
use Rattle.operation_laws.specs.Given.{pair_name, one_of}
use Rattle.held_values.specs.declared.held.Held.{Held}
use Rattle.held_values.specs.declared.held.Held.TheVariants as held
use Rattle.operations.specs.declared.answers.Ran.{Ran}
use Rattle.operations.specs.declared.answers.Ran.TheVariants as ran

-- the reference that a field for a proof is given, by what the job that its text is about holds
abbrev pub proof_in : List ℕ → Held → Option Reference
proof_in text held.Nothing = None
proof_in text held.Refused = None
proof_in text held.Unheld = None
proof_in text held.Unknown = None
proof_in text (held.Proof r) = if is_some (pair_name text) then None else Some r
proof_in text (held.Refutation r) = None
proof_in text (held.Pair r s) = one_of text r s
proof_in text (held.Problem p) = None
proof_in text (held.Expansion e) = None
proof_in text (held.Definition p) = None

-- the value of the first name
abbrev pub first_held : List Held → Held
first_held [] = held.Unknown
first_held (h ∷ hs) = h

-- the proof that an elimination of cuts within a budget is given stands as a key in the list of eliminations that the pass has seen
abbrev pub IsNoted : Op → List Held → DeskPass → Type 0
IsNoted (ops.Cutelim of n) given p = IsSomeAnd (proof_in of (first_held given)) (λ r. HasElimination p r.number)
IsNoted (ops.Lk steps using) given p = Unit {0}
IsNoted (ops.Problem problem) given p = Unit {0}
IsNoted (ops.Proves of goal) given p = Unit {0}
IsNoted (ops.Show of) given p = Unit {0}
IsNoted (ops.Measure of) given p = Unit {0}
IsNoted (ops.Subst of m) given p = Unit {0}
IsNoted (ops.Eliminate of) given p = Unit {0}
IsNoted (ops.Define symbol vars body using) given p = Unit {0}
IsNoted (ops.Unfold of) given p = Unit {0}
IsNoted (ops.Sat of) given p = Unit {0}
IsNoted (ops.Prove of n) given p = Unit {0}
IsNoted (ops.Resolution of steps) given p = Unit {0}
IsNoted (ops.Tautology s n) given p = Unit {0}
IsNoted (ops.Expansion flat n) given p = Unit {0}
IsNoted (ops.Expand of n) given p = Unit {0}
IsNoted (ops.Fromexp of n) given p = Unit {0}
IsNoted (ops.Interpolate of one two n) given p = Unit {0}
IsNoted (ops.Herbrand of n) given p = Unit {0}
IsNoted (ops.Cutintro of width n) given p = Unit {0}

-- whether an operation has a product
abbrev pub is_done : Ran → Bool
is_done (ran.Refused r) = false
is_done ran.Unnamed = false
is_done (ran.Failed f) = false
is_done ran.Lacking = false
is_done (ran.Done m) = true

-- whether an outcome shows a proof without cuts and the number of contractions that led to it
abbrev pub is_reduced : Outcome → Bool
is_reduced (outcomes.Reduced summary reductions) = true
is_reduced (outcomes.Proof summary) = false
is_reduced (outcomes.Entries entries sequent) = false
is_reduced (outcomes.Proves proves) = false
is_reduced (outcomes.Steps steps) = false
is_reduced (outcomes.Measure cuts nodes quants size) = false
is_reduced (outcomes.Expansion summary) = false
is_reduced (outcomes.Nodes flat) = false
is_reduced (outcomes.Interpolant first formula second) = false
is_reduced (outcomes.Herbrand count sequent) = false
is_reduced (outcomes.Introduced summary shorter) = false
is_reduced (outcomes.Definition symbol arity body) = false
is_reduced (outcomes.Satisfiable atoms) = false
is_reduced (outcomes.Unsatisfiable steps) = false
is_reduced (outcomes.Saturated clauses) = false
is_reduced (outcomes.Refuted steps) = false
is_reduced outcomes.LineTooLong = false
is_reduced (outcomes.Reading cause) = false
is_reduced outcomes.NameTaken = false
is_reduced (outcomes.UnknownName name) = false
is_reduced (outcomes.Kind name) = false
is_reduced outcomes.Empty = false
is_reduced (outcomes.Step step cause) = false
is_reduced (outcomes.Refutation step cause) = false
is_reduced (outcomes.Quantified formula side) = false
is_reduced (outcomes.Falsified atoms) = false
is_reduced (outcomes.Node node cause) = false
is_reduced (outcomes.Root root cause) = false
is_reduced (outcomes.EigenTwice var) = false
is_reduced (outcomes.EigenFree var) = false
is_reduced (outcomes.Cycle vars) = false
is_reduced (outcomes.Cut place) = false
is_reduced (outcomes.Defined formula side) = false
is_reduced (outcomes.Partition formula side) = false
is_reduced (outcomes.NotPrenex formula side) = false
is_reduced (outcomes.TooMany tuples) = false
is_reduced (outcomes.DefTwice name) = false
is_reduced (outcomes.DefFree var) = false
is_reduced outcomes.DefLarge = false
is_reduced (outcomes.NotGround clause) = false
is_reduced outcomes.Rounds = false
is_reduced outcomes.Budget = false
is_reduced outcomes.Memory = false
