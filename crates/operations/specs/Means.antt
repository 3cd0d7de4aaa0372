-- What the program's answers stand for, over the graph that the proofs share.
--     made_of      what a product of the program means
--     needs      what an operation is run with
--     Finds, FindsProof      what a field was given, and a field for a proof
--     Comes, ComesTo      what an operation came to stands for an answer, and for one to what it asks for
--     is_refusal      an operation came to a refusal or a failure
--     IsShort      an operation failed because the work takes more than the budget allows
--     faulty      steps are no proof
use Rattle.std.specs.Prelude.{◌≡◌, ℕ, Bool, true, false, List, [], ◌∷◌, Result, Ok, Err}
use Rattle.std.specs.List.{All}
use Rattle.proof_graph.specs.declared.graph.Graph.{Graph}
use Rattle.proof_graph.specs.Graphs.{IsOf}
use Rattle.fol.specs.Syntax.{Pred, pred, defined}
use Rattle.fol.specs.Formed.{IsFormedVar, IsFormedPred}
use Rattle.exp_tree.specs.Reads.{expansion_of}
use Rattle.expansion_laws.specs.declared.fault.ExpFault.{ExpFault}
use Rattle.expansion_laws.specs.declared.fault.ExpFault.TheVariants as checks
use Rattle.tptp_problem.specs.ProblemClauses.{IsReadProblem}
use Rattle.job_lang.specs.declared.jobs.Op.{Op}
use Rattle.job_lang.specs.declared.jobs.Op.TheVariants as ops
use Rattle.operation_laws.specs.declared.refusals.Refusal.{Refusal}
use Rattle.operation_laws.specs.declared.refusals.Refusal.TheVariants.{UnknownName, Kind}
use Rattle.operation_laws.specs.declared.refusals.Failure.TheVariants.{Budget, Unproved}
use Rattle.operations.specs.declared.answers.Made.{Made}
use Rattle.operations.specs.declared.answers.Made.TheVariants as made
use Rattle.operations.specs.declared.answers.Ran.{Ran}
use Rattle.operations.specs.declared.answers.Ran.TheVariants as ran
use Rattle.operation_laws.specs.Answers.{Product, Answer, Asked, one as answering, elimination, satisfiability, saturation, May}
use Rattle.operation_laws.specs.Answers as answers
use Rattle.operation_laws.specs.Given.{Found}
use Rattle.operation_laws.specs.Given as given
use Rattle.operations.specs.declared.given.ToShow.{ToShow}
use Rattle.operations.specs.declared.given.ToShow.TheVariants as to_show
use Rattle.operations.specs.declared.answers.Absent.{Absent}
use Rattle.operations.specs.declared.answers.Absent.TheVariants as absent
use Rattle.held_values.specs.declared.held.Held.{Held}
use Rattle.held_values.specs.declared.held.Held.TheVariants as held
use Rattle.held_values.specs.Means.{proof_of, Stands, ShowsName}

-- what a product of the program means
abbrev pub made_of : Made → Product
made_of (made.Proof r) = answers.proof r.tree
made_of (made.Reduced r n) = answers.reduced r.tree n
made_of (made.Problem p) = answers.problem p
made_of (made.Proves b) = answers.proves b
made_of (made.Steps list) = answers.steps list
made_of (made.Sizes cuts nodes quants size) = answers.sizes cuts nodes quants size
made_of (made.Expansion e) = answers.expansion (expansion_of e)
made_of (made.Nodes flat) = answers.nodes flat
made_of (made.Interpolant f r s) = answers.interpolant f r.tree s.tree
made_of (made.Herbrand k s) = answers.herbrand k s
made_of (made.Introduced r b) = answers.introduced r.tree b
made_of (made.Definition s f) = answers.definition s f
made_of (made.Model atoms) = answers.model atoms
made_of (made.Refutation r) = answers.refutation r.steps (proof_of r)
made_of (made.Derivation r) = answers.derivation r.steps (proof_of r)
made_of (made.Saturated clauses) = answers.saturated clauses

-- its references are of the graph, a refutation stands for its proof, a problem is such as is read, and a symbol is well formed
abbrev pub FitsMade : Graph → Made → Type 0
FitsMade g (made.Proof r) = IsOf g r
FitsMade g (made.Reduced r n) = IsOf g r
FitsMade g (made.Problem p) = IsReadProblem p
FitsMade g (made.Proves b) = Unit {0}
FitsMade g (made.Steps list) = Unit {0}
FitsMade g (made.Sizes cuts nodes quants size) = Unit {0}
FitsMade g (made.Expansion e) = Unit {0}
FitsMade g (made.Nodes flat) = Unit {0}
FitsMade g (made.Interpolant f r s) = IsOf g r × IsOf g s
FitsMade g (made.Herbrand k s) = Unit {0}
FitsMade g (made.Introduced r b) = IsOf g r
FitsMade g (made.Definition s f) = IsFormedPred (pred s (defined f))
FitsMade g (made.Model atoms) = Unit {0}
FitsMade g (made.Refutation r) = Stands r
FitsMade g (made.Derivation r) = Stands r
FitsMade g (made.Saturated clauses) = Unit {0}

-- the field is given nothing, and refused so, unless there is no memory for the name that the refusal shows
abbrev pub IsAbsent : Absent → Refusal → Type 0
IsAbsent (absent.Refused r) wanted = r ≡ wanted
IsAbsent absent.Unnamed wanted = ShowsName wanted
IsAbsent absent.Wanting wanted = ⊥
IsAbsent absent.Unmade wanted = ⊥

-- the field is given nothing of a value that it doesn't take: no job has the name, or the job lacked memory, or it holds another kind of value
abbrev pub GivesNothing : Absent → List ℕ → Held → Type 0
GivesNothing a text held.Unknown = IsAbsent a (UnknownName text)
GivesNothing a text held.Unheld = a ≡ absent.Wanting
GivesNothing a text value = IsAbsent a (Kind text)

-- why there is nothing that a field was given, in the program
abbrev pub FindsNone : {A : Type 0} → Absent → Found A → Type 0
FindsNone (absent.Refused r) wanted = wanted ≡ given.missing r
FindsNone absent.Unnamed (given.missing r) = ShowsName r
FindsNone absent.Unnamed given.wanting = ⊥
FindsNone absent.Unnamed (given.found a) = ⊥
FindsNone absent.Wanting wanted = wanted ≡ given.wanting
FindsNone absent.Unmade wanted = ⊥

-- what a field was given, in the program: what `of` says of it, or why there is nothing
abbrev pub Finds : {T A : Type 0} → (T → A) → Result T Absent → Found A → Type 0
Finds of (Ok x) wanted = wanted ≡ given.found (of x)
Finds of (Err a) wanted = FindsNone a wanted

-- the field is given something
abbrev pub IsFound : {A : Type 0} → Found A → Type 0
IsFound (given.missing r) = ⊥
IsFound given.wanting = ⊥
IsFound (given.found a) = Unit {0}

-- the same of a proof, which there may have been no memory to make
abbrev pub FindsProof : {T A : Type 0} → (T → A) → Result T Absent → Found A → Type 0
FindsProof of (Ok x) wanted = wanted ≡ given.found (of x)
FindsProof of (Err absent.Unmade) wanted = IsFound wanted
FindsProof of (Err a) wanted = FindsNone a wanted

-- what can be shown, in the program
abbrev pub shown_as : ToShow → given.ToShow
shown_as (to_show.Proof r) = given.of_proof r.now.tree
shown_as (to_show.Expansion e) = given.of_expansion (expansion_of e.now)

abbrev pub FitsShown : Graph → ToShow → Type 0
FitsShown g (to_show.Proof r) = IsOf g r.now
FitsShown g (to_show.Expansion e) = Unit {0}

-- the variables that a fault of expansion trees names are well formed
abbrev pub HasFormedVars : ExpFault → Type 0
HasFormedVars (checks.EigenTwice v) = IsFormedVar v
HasFormedVars (checks.EigenFree v) = IsFormedVar v
HasFormedVars (checks.Cycle vs) = All IsFormedVar vs
HasFormedVars (checks.Falsified a) = Unit {0}
HasFormedVars checks.Budget = Unit {0}
HasFormedVars checks.Memory = Unit {0}

-- what an operation comes to, in the program, where a field is given nothing
abbrev pub without : Absent → Ran
without (absent.Refused r) = ran.Refused r
without absent.Unnamed = ran.Unnamed
without absent.Wanting = ran.Lacking
without absent.Unmade = ran.Lacking

-- what steps come to that are no proof: they are refused, and with definitions put into them that is found by work
abbrev pub faulty : List (List ℕ) → Refusal → Ran
faulty [] r = ran.Refused r
faulty (text ∷ texts) r = ran.Failed (Unproved r)

-- what an operation is run with: a graph, into which it puts nothing; a bench for the proofs that it makes; or a desk for an elimination of cuts
pub data Needs : Type 0 where
  a_graph : Needs
  a_bench : Needs
  a_desk : Needs

abbrev pub needs : Op → Needs
needs (ops.Lk steps using) = a_bench
needs (ops.Problem p) = a_graph
needs (ops.Proves of goal) = a_graph
needs (ops.Show of) = a_graph
needs (ops.Measure of) = a_graph
needs (ops.Subst of m) = a_bench
needs (ops.Cutelim of n) = a_desk
needs (ops.Eliminate of) = a_desk
needs (ops.Define symbol vars body using) = a_graph
needs (ops.Unfold of) = a_bench
needs (ops.Sat of) = a_graph
needs (ops.Prove of n) = a_graph
needs (ops.Resolution of steps) = a_bench
needs (ops.Tautology s n) = a_bench
needs (ops.Expansion flat n) = a_graph
needs (ops.Expand of n) = a_graph
needs (ops.Fromexp of n) = a_bench
needs (ops.Interpolate of one two n) = a_bench
needs (ops.Herbrand of n) = a_graph
needs (ops.Cutintro of width n) = a_bench

-- What running an operation came to. A refusal lacks memory at most for the name that it shows, and what is done or failed may lack it.
abbrev pub Comes : Graph → Ran → Answer → Type 0
Comes g (ran.Refused r) wanted = wanted ≡ answers.refused r
Comes g ran.Unnamed (answers.refused r) = ShowsName r
Comes g ran.Unnamed wanted = ⊥
Comes g (ran.Failed f) wanted = wanted ≡ answers.failed f
Comes g ran.Lacking (answers.refused r) = ⊥
Comes g ran.Lacking wanted = Unit {0}
Comes g (ran.Done m) wanted = (wanted ≡ answers.product (made_of m)) × FitsMade g m

-- want of memory is an answer to what is done with definitions, whatever they are
abbrev pub LacksAlways : (List Pred → Answer) → Type 0
LacksAlways k = (g : Graph) (ds : List Pred) → Comes g ran.Lacking (k ds)

-- what it came to may be answered to what it asks for
abbrev pub ComesTo : Graph → Ran → Asked → Type 0
ComesTo g r (answering a) = Comes g r a
ComesTo g r (elimination t) = (a : Answer) × May (elimination t) a × Comes g r a
ComesTo g r (satisfiability cs) = (a : Answer) × May (satisfiability cs) a × Comes g r a
ComesTo g r (saturation cs n) = (a : Answer) × May (saturation cs n) a × Comes g r a

-- whether an operation came to no product though memory didn't run out: it is refused, or it failed
abbrev pub is_refusal : Ran → Bool
is_refusal (ran.Refused r) = true
is_refusal ran.Unnamed = true
is_refusal (ran.Failed f) = true
is_refusal ran.Lacking = false
is_refusal (ran.Done m) = false

abbrev pub IsShort : Ran → Type 0
IsShort r = r ≡ ran.Failed Budget
