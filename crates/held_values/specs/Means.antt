-- What the values that jobs hold, and the answers to jobs, stand for, over the graph that the proofs share.
--     proof_of      the proof that a refutation stands for
--     sense      what a value means, and nothing for a name that no job has
--     Stands      a refutation stands for a valid proof
--     Fits      the value may be given to an operation over this graph
--     IsAnswered, IsAnsweredTo      an outcome and what a value means are what is answered, and what may be answered to what is asked for
use Rattle.std.specs.Prelude.{◌≡◌, ◌⊎◌, ℕ, Option, Some, None, Result, Ok, Err}
use Rattle.fol.specs.Formed.{IsFormedPred}
use Rattle.lk_rules.specs.declared.rule.Rule.TheVariants.{BotL}
use Rattle.lk_rules.specs.Sequents.{empty}
use Rattle.proof_trees.specs.Trees.{Tree, node, none, IsValid}
use Rattle.refutations.specs.declared.step.ResCause.{ResCause}
use Rattle.refutations.specs.Refutations.{refutation, AreFormedSteps}
use Rattle.proof_graph.specs.declared.graph.Graph.{Graph}
use Rattle.proof_graph.specs.Graphs.{IsOf}
use Rattle.exp_tree.specs.Reads.{expansion_of}
use Rattle.tptp_problem.specs.ProblemClauses.{clauses_of, IsReadProblem}
use Rattle.reply_lines.specs.declared.replies.Outcome.{Outcome}
use Rattle.reply_lines.specs.declared.replies.Outcome.TheVariants.{Memory}
use Rattle.operation_laws.specs.declared.refusals.Refusal.{Refusal}
use Rattle.operation_laws.specs.declared.refusals.Refusal.TheVariants.{UnknownName, Kind, Empty, Step}
use Rattle.held_values.specs.declared.refutation.Refutation.{Refutation}
use Rattle.held_values.specs.declared.held.Held.{Held}
use Rattle.held_values.specs.declared.held.Held.TheVariants as held
use Rattle.operation_laws.specs.Values.{Value, nothing, refused, lacking, proof, pair, problem, expansion, definition}
use Rattle.operation_laws.specs.Answers.{Answer, shown_refusal, shown_failure, shown_product, held_product, Asked, one, elimination, satisfiability, saturation, May}
use Rattle.operation_laws.specs.Answers as answers

-- the tree that was made, and any other where a step was faulty
abbrev pub tree_of : Result Tree (ℕ × ResCause) → Tree
tree_of (Ok t) = t
tree_of (Err fault) = node BotL empty none

-- the proof that the steps stand for
abbrev pub proof_of : Refutation → Tree
proof_of r = tree_of (refutation (clauses_of r.problem.entries) r.steps)

abbrev pub sense : Held → Option Value
sense held.Nothing = Some nothing
sense held.Refused = Some refused
sense held.Unheld = Some lacking
sense held.Unknown = None
sense (held.Proof r) = Some (proof r.tree)
sense (held.Refutation r) = Some (proof (proof_of r))
sense (held.Pair r s) = Some (pair r.tree s.tree)
sense (held.Problem p) = Some (problem p)
sense (held.Expansion e) = Some (expansion (expansion_of e))
sense (held.Definition p) = Some (definition p)

-- the problem is such as is read, and no step is faulty
pub record Stands (r : Refutation) : Type 0 where
  pub read : IsReadProblem r.problem
  pub formed : AreFormedSteps r.steps
  pub refutes : refutation (clauses_of r.problem.entries) r.steps ≡ Ok (proof_of r)
  pub valid : IsValid (proof_of r)

-- references are of the graph, a refutation stands for its proof, a problem is such as is read, and a symbol is well formed
abbrev pub Fits : Graph → Held → Type 0
Fits g held.Nothing = Unit {0}
Fits g held.Refused = Unit {0}
Fits g held.Unheld = Unit {0}
Fits g held.Unknown = Unit {0}
Fits g (held.Proof r) = IsOf g r
Fits g (held.Refutation r) = Stands r
Fits g (held.Pair r s) = IsOf g r × IsOf g s
Fits g (held.Problem p) = IsReadProblem p
Fits g (held.Expansion e) = Unit {0}
Fits g (held.Definition p) = IsFormedPred p

-- the refusal shows a name
abbrev pub ShowsName : Refusal → Type 0
ShowsName (UnknownName text) = Unit {0}
ShowsName (Kind text) = Unit {0}
ShowsName Empty = ⊥
ShowsName (Step i cause) = ⊥

-- an outcome and what the value of the job means
abbrev pub Is : Outcome → Option Value → Outcome → Value → Type 0
Is outcome meant wanted value = (outcome ≡ wanted) × (meant ≡ Some value)

-- They are what is answered. Where a refusal shows a name and there is no memory for that, want of memory is answered with the value of a
-- refusal, which no other answer has. Where memory ran out in the operation, want of it is answered with the value that later jobs find of it.
abbrev pub IsAnswered : Outcome → Option Value → Answer → Type 0
IsAnswered outcome meant (answers.refused r) = Is outcome meant (shown_refusal r) refused ⊎ (ShowsName r × Is outcome meant Memory refused)
IsAnswered outcome meant (answers.failed f) = Is outcome meant (shown_failure f) refused ⊎ Is outcome meant Memory lacking
IsAnswered outcome meant answers.lacking = Is outcome meant Memory lacking
IsAnswered outcome meant (answers.product p) = Is outcome meant (shown_product p) (held_product p) ⊎ Is outcome meant Memory lacking

-- they are what may be answered to what an operation asks for
abbrev pub IsAnsweredTo : Outcome → Option Value → Asked → Type 0
IsAnsweredTo outcome meant (one a) = IsAnswered outcome meant a
IsAnsweredTo outcome meant (elimination t) = (a : Answer) × May (elimination t) a × IsAnswered outcome meant a
IsAnsweredTo outcome meant (satisfiability cs) = (a : Answer) × May (satisfiability cs) a × IsAnswered outcome meant a
IsAnsweredTo outcome meant (saturation cs n) = (a : Answer) × May (saturation cs n) a × IsAnswered outcome meant a
