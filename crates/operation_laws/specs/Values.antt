-- What jobs hold for later ones.
use Rattle.fol.specs.Syntax.{Pred}
use Rattle.fol.specs.Formed.{IsFormedPred}
use Rattle.proof_trees.specs.Trees.{Tree, IsValid}
use Rattle.expansion_laws.specs.Dependency.{Expansion}
use Rattle.expansion_laws.specs.Proofs.{shallow_sequent, IsExpansionProof}
use Rattle.tptp_problem.specs.declared.problems.Problem.{Problem}
use Rattle.tptp_problem.specs.ProblemClauses.{IsReadProblem}

-- A job holds a proof, a pair of proofs, a problem, expansion trees or a symbol that stands for a formula, or nothing that a later job could
-- use; it was refused, or it reported want of memory.
pub data Value : Type 0 where
  nothing : Value
  refused : Value
  lacking : Value
  proof : Tree → Value
  pair : Tree → Tree → Value
  problem : Problem → Value
  expansion : Expansion → Value
  definition : Pred → Value

-- the proof is valid, both proofs of a pair are, the problem is such as is read, the trees are an expansion proof of the sequent of their
-- formulas, and the symbol is well formed
abbrev pub IsSound : Value → Type 0
IsSound nothing = Unit {0}
IsSound refused = Unit {0}
IsSound lacking = Unit {0}
IsSound (proof t) = IsValid t
IsSound (pair t u) = IsValid t × IsValid u
IsSound (problem p) = IsReadProblem p
IsSound (expansion x) = IsExpansionProof x (shallow_sequent x)
IsSound (definition p) = IsFormedPred p
