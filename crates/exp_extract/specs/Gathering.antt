-- Gathering the variables of proofs.
--     HasVars      a set has the variables of a proof
--     IsGathering      a table of proofs whose variables are in a set
use Rattle.std.specs.Prelude.{◌≡◌, ℕ, nat_eq, true, IfSome}
use Rattle.std.specs.HashMap as hash
use Rattle.fol.specs.declared.symbols.Var.{Var}
use Rattle.finite.specs.Finite as set
use Rattle.free_variables.specs.Fresh.{is_among}
use Rattle.free_variables.specs.Sets.{VarSet}
use Rattle.proof_trees.specs.Trees.{Tree}
use Rattle.proof_graph.specs.declared.graph.Graph.{Graph}
use Rattle.proof_graph.specs.Graphs.{IsOf}
use Rattle.proof_graph.specs.References.{Reference}
use Rattle.extraction_laws.specs.Extraction.{var_list_tree}
use Rattle.exp_extract.specs.declared.variables.Gathering.{Gathering}

-- each variable of the proof is in the set
abbrev pub HasVars : VarSet → Tree → Type 0
HasVars vs t = (v : Var) → is_among v (var_list_tree t) ≡ true → set.has vs v ≡ true

-- the reference is of the graph, and the variables of its tree are in the set
pub record IsGathered (g : Graph) (vs : VarSet) (r : Reference) : Type 0 where
  pub of : IsOf g r
  pub vars : HasVars vs r.tree

-- so it is of each proof of the table
abbrev pub IsGathering : Graph → Gathering → Type 0
IsGathering g x = (q : ℕ) → IfSome (hash.get nat_eq x.seen q) (IsGathered g x.vars)
