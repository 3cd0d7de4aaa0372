-- What an operation comes to.
--     Product      what it makes, where it is done
--     Answer      a refusal that is found before any work, a failure that is found by work, want of memory, or a product
--     shown, held      what is replied to the job, and what the job holds
--     proofs_in      the proofs in a product
--     Asked, May      what an operation asks for, and what may be answered to it
use Rattle.std.specs.Prelude.{◌≡◌, ◌⊎◌, ℕ, ◌-◌, ◌^◌, min, length, Bool, List, [], ◌∷◌, map, Ok}
use Rattle.std.specs.List.{All}
use Rattle.finite.specs.Finite as set
use Rattle.fol.specs.declared.symbols.Sym.{Sym}
use Rattle.fol.specs.Syntax.{pred, defined, Formula}
use Rattle.lk_rules.specs.declared.sequent.Sequent.{Sequent}
use Rattle.lk_rules.specs.Formulas.{FormulaSet}
use Rattle.lk_rules.specs.declared.rule.Step.{Step}
use Rattle.lk_rules.specs.Sequents.{empty}
use Rattle.proof_trees.specs.Trees.{Tree, concl, cuts, quants}
use Rattle.cut_laws.specs.Elimination.{Reaches}
use Rattle.refutations.specs.declared.clause.Clause.{Clause}
use Rattle.refutations.specs.declared.step.ResStep.{ResStep}
use Rattle.refutations.specs.Refutations.{refutation as refutation_of, AreFormedSteps}
use Rattle.ground_laws.specs.declared.step.SatStep.{SatStep}
use Rattle.ground_laws.specs.Models.{IsModel}
use Rattle.ground_laws.specs.Steps.{IsRefutation, res_step, sequents_of}
use Rattle.clause_laws.specs.Rounds.{IsClosed, Level}
use Rattle.clause_laws.specs.Saturation.{IsSaturation}
use Rattle.expansion_laws.specs.Dependency.{Expansion, strongs_of}
use Rattle.expansion_laws.specs.Proofs.{shallow_sequent}
use Rattle.exp_tree.specs.Instances.{instances_of}
use Rattle.exp_tree.specs.declared.flat.FlatExp.{FlatExp}
use Rattle.tptp_problem.specs.declared.problems.Problem.{Problem}
use Rattle.reply_lines.specs.declared.replies.Outcome.{Outcome}
use Rattle.reply_lines.specs.declared.replies.Outcome.TheVariants as outcomes
use Rattle.reply_lines.specs.declared.replies.Summary.{Summary}
use Rattle.reply_lines.specs.declared.replies.ExpSummary.{ExpSummary}
use Rattle.reply_lines.specs.Shown.{IsShownFormula, IsShownStep, IsShownClause}
use Rattle.operation_laws.specs.declared.refusals.Refusal.{Refusal}
use Rattle.operation_laws.specs.declared.refusals.Refusal.TheVariants.{UnknownName, Kind, Empty, Step as Faulty}
use Rattle.operation_laws.specs.declared.refusals.Failure.{Failure}
use Rattle.operation_laws.specs.declared.refusals.Failure.TheVariants.{Budget, Unproved, Refutation, Quantified, Falsified, Node, Root, EigenTwice, EigenFree, Cycle, Cut, Defined, Partition, NotPrenex, TooMany, DefTwice, DefFree, DefLarge, NotGround, Rounds}
use Rattle.operation_laws.specs.Values.{Value}
use Rattle.operation_laws.specs.Values as values

-- a proof, a proof that was met after a number of replacements, a problem, whether a proof proves a problem, the steps of a proof, the
-- numbers of its cuts, of its nodes that differ, of its quantifier rules and of all its nodes, expansion trees, trees as a flat list, an
-- interpolant with its two proofs, that of the first part first, a Herbrand sequent after the number of its tuples, a proof and whether it is
-- shorter than the given one, a symbol with the formula that it stands for, closed over its arguments, the atoms that are true in a model,
-- the steps of a refutation of ground clauses, or of any clauses, with the proof that they stand for, or clauses that rounds of resolution end with
pub data Product : Type 0 where
  proof : Tree → Product
  reduced : Tree → ℕ → Product
  problem : Problem → Product
  proves : Bool → Product
  steps : List Step → Product
  sizes : ℕ → ℕ → ℕ → ℕ → Product
  expansion : Expansion → Product
  nodes : FlatExp → Product
  interpolant : Formula → Tree → Tree → Product
  herbrand : ℕ → Sequent → Product
  introduced : Tree → Bool → Product
  definition : Sym → Formula → Product
  model : FormulaSet → Product
  refutation : List ResStep → Tree → Product
  derivation : List ResStep → Tree → Product
  saturated : List Sequent → Product

pub data Answer : Type 0 where
  refused : Refusal → Answer
  failed : Failure → Answer
  lacking : Answer
  product : Product → Answer

-- counts end at the largest number of 64 bits
abbrev pub capped : ℕ → ℕ
capped n = min n (2 ^ 64 - 1)

-- a proof in short
abbrev pub summary_of : Tree → Summary
summary_of t = record { cuts = capped (cuts t); end = concl t; quants = capped (quants t) }

-- expansion trees in short
abbrev pub exp_summary_of : Expansion → ExpSummary
exp_summary_of x = record { end = shallow_sequent x; instances = capped (instances_of x); strong = capped (length (strongs_of x)) }

abbrev pub shown_refusal : Refusal → Outcome
shown_refusal (UnknownName text) = outcomes.UnknownName text
shown_refusal (Kind text) = outcomes.Kind text
shown_refusal Empty = outcomes.Empty
shown_refusal (Faulty step cause) = outcomes.Step step cause

abbrev pub shown_failure : Failure → Outcome
shown_failure Budget = outcomes.Budget
shown_failure (Unproved r) = shown_refusal r
shown_failure (Refutation step cause) = outcomes.Refutation step cause
shown_failure (Quantified f side) = outcomes.Quantified f side
shown_failure (Falsified atoms) = outcomes.Falsified atoms
shown_failure (Node i cause) = outcomes.Node i cause
shown_failure (Root i cause) = outcomes.Root i cause
shown_failure (EigenTwice v) = outcomes.EigenTwice v
shown_failure (EigenFree v) = outcomes.EigenFree v
shown_failure (Cycle vs) = outcomes.Cycle vs
shown_failure (Cut step) = outcomes.Cut step
shown_failure (Defined f side) = outcomes.Defined f side
shown_failure (Partition f side) = outcomes.Partition f side
shown_failure (NotPrenex f side) = outcomes.NotPrenex f side
shown_failure (TooMany k) = outcomes.TooMany k
shown_failure (DefTwice text) = outcomes.DefTwice text
shown_failure (DefFree v) = outcomes.DefFree v
shown_failure DefLarge = outcomes.DefLarge
shown_failure (NotGround i) = outcomes.NotGround i
shown_failure Rounds = outcomes.Rounds

abbrev pub shown_product : Product → Outcome
shown_product (proof t) = outcomes.Proof (summary_of t)
shown_product (reduced t n) = outcomes.Reduced (summary_of t) n
shown_product (problem p) = outcomes.Entries (length p.entries) p.sequent
shown_product (proves b) = outcomes.Proves b
shown_product (steps list) = outcomes.Steps list
shown_product (sizes cuts distinct quants size) = outcomes.Measure cuts distinct quants size
shown_product (expansion x) = outcomes.Expansion (exp_summary_of x)
shown_product (nodes flat) = outcomes.Nodes flat
shown_product (interpolant f t u) = outcomes.Interpolant (summary_of t) f (summary_of u)
shown_product (herbrand k s) = outcomes.Herbrand k s
shown_product (introduced t b) = outcomes.Introduced (summary_of t) b
shown_product (definition s f) = outcomes.Definition s.name s.arity f
shown_product (model atoms) = outcomes.Satisfiable atoms
shown_product (refutation list t) = outcomes.Unsatisfiable list
shown_product (derivation list t) = outcomes.Refuted list
shown_product (saturated ks) = outcomes.Saturated ks

-- what is replied
abbrev pub shown : Answer → Outcome
shown (refused r) = shown_refusal r
shown (failed f) = shown_failure f
shown lacking = outcomes.Memory
shown (product p) = shown_product p

abbrev pub held_product : Product → Value
held_product (proof t) = values.proof t
held_product (reduced t n) = values.proof t
held_product (problem p) = values.problem p
held_product (proves b) = values.nothing
held_product (steps list) = values.nothing
held_product (sizes cuts distinct quants size) = values.nothing
held_product (expansion x) = values.expansion x
held_product (nodes flat) = values.nothing
held_product (interpolant f t u) = values.pair t u
held_product (herbrand k s) = values.nothing
held_product (introduced t b) = values.proof t
held_product (definition s f) = values.definition (pred s (defined f))
held_product (model atoms) = values.nothing
held_product (refutation list t) = values.proof t
held_product (derivation list t) = values.proof t
held_product (saturated ks) = values.nothing

-- what the job holds
abbrev pub held : Answer → Value
held (refused r) = values.refused
held (failed f) = values.refused
held lacking = values.lacking
held (product p) = held_product p

-- the proofs in a product
abbrev pub proofs_in : Product → List Tree
proofs_in (proof t) = t ∷ []
proofs_in (reduced t n) = t ∷ []
proofs_in (problem p) = []
proofs_in (proves b) = []
proofs_in (steps list) = []
proofs_in (sizes cuts distinct quants size) = []
proofs_in (expansion x) = []
proofs_in (nodes flat) = []
proofs_in (interpolant f t u) = t ∷ u ∷ []
proofs_in (herbrand k s) = []
proofs_in (introduced t b) = t ∷ []
proofs_in (definition s f) = []
proofs_in (model atoms) = []
proofs_in (refutation list t) = t ∷ []
proofs_in (derivation list t) = t ∷ []
proofs_in (saturated ks) = []

-- What an operation asks for: one answer; a proof without cuts that is reached from a proof, after however many replacements, which no function
-- of the proof computes; a model or a refutation of clauses, of which there are several; or a refutation of clauses that a number of rounds of
-- resolution reach, or clauses that these end with. So relations say what these are.
pub data Asked : Type 0 where
  one : Answer → Asked
  elimination : Tree → Asked
  satisfiability : List Clause → Asked
  saturation : List Clause → ℕ → Asked

-- A refusal needs no memory; a failure and a product may give way to want of it.
abbrev pub OrLacking : Answer → Answer → Type 0
OrLacking (refused r) b = b ≡ refused r
OrLacking (failed f) b = (b ≡ failed f) ⊎ (b ≡ lacking)
OrLacking lacking b = b ≡ lacking
OrLacking (product p) b = (b ≡ product p) ⊎ (b ≡ lacking)

-- it is the proof that is reached from t, with the number of replacements, which ends at the largest number of 64 bits
pub record IsReached (t : Tree) (b : Answer) : Type 0 where
  pub tree : Tree
  pub steps : ℕ
  pub reached : Reaches t steps tree
  pub is : b ≡ product (reduced tree (capped steps))

-- it is a model of the clauses, which a line can tell
pub record IsModelOf (cs : List Clause) (b : Answer) : Type 0 where
  pub atoms : FormulaSet
  pub holds : IsModel atoms (sequents_of cs)
  pub shown : All IsShownFormula (set.listing atoms)
  pub is : b ≡ product (model atoms)

-- it is a refutation of the clauses, by steps that a line can tell, with the proof that these stand for
pub record IsRefutationOf (cs : List Clause) (b : Answer) : Type 0 where
  pub steps : List SatStep
  pub refutes : IsRefutation (sequents_of cs) steps
  pub tree : Tree
  pub stands : refutation_of cs (map res_step steps) ≡ Ok tree
  pub shown : All IsShownStep (map res_step steps)
  pub is : b ≡ product (refutation (map res_step steps) tree)

-- the rounds reach the empty clause, and it is a refutation, by steps that a line can tell, with the proof that these stand for
pub record IsRefutedIn (cs : List Clause) (n : ℕ) (b : Answer) : Type 0 where
  pub reached : Level (sequents_of cs) n empty
  pub steps : List ResStep
  pub formed : AreFormedSteps steps
  pub tree : Tree
  pub stands : refutation_of cs steps ≡ Ok tree
  pub shown : All IsShownStep steps
  pub is : b ≡ product (derivation steps tree)

-- a further round adds nothing to these clauses, which a line can tell
pub record IsSaturatedIn (cs : List Clause) (n : ℕ) (b : Answer) : Type 0 where
  pub clauses : List Sequent
  pub holds : IsSaturation (sequents_of cs) n clauses
  pub shown : All IsShownClause clauses
  pub is : b ≡ product (saturated clauses)

-- the rounds don't reach the empty clause, and a further round would add clauses
pub record IsUnfinished (cs : List Clause) (n : ℕ) (b : Answer) : Type 0 where
  pub not_empty : ¬ Level (sequents_of cs) n empty
  pub not_closed : ¬ IsClosed (Level (sequents_of cs) n)
  pub is : b ≡ failed Rounds

-- what may be answered
abbrev pub May : Asked → Answer → Type 0
May (one a) b = OrLacking a b
May (elimination t) b = IsReached t b ⊎ (b ≡ lacking)
May (satisfiability cs) b = IsModelOf cs b ⊎ (IsRefutationOf cs b ⊎ (b ≡ lacking))
May (saturation cs n) b = IsRefutedIn cs n b ⊎ (IsSaturatedIn cs n b ⊎ (IsUnfinished cs n b ⊎ (b ≡ lacking)))
