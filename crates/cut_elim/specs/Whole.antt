-- What a proof comes to when its cuts are eliminated without a budget.
use Rattle.std.specs.Prelude.{◌≡◌, ℕ, ◌-◌, ◌^◌, min}
use Rattle.proof_graph.specs.declared.graph.Graph.{Graph}
use Rattle.proof_graph.specs.References.{Reference}
use Rattle.proof_graph.specs.Graphs.{IsOf}
use Rattle.cut_laws.specs.Elimination.{Reaches}
use Rattle.cut_elim.specs.declared.known.Reduced.{Reduced}

-- from the tree of p the tree without cuts is reached. The number of contractions is the answer's, or that is the greatest where it is less
pub record IsWhole (g : Graph) (p : Reference) (made : Reduced) : Type 0 where
  pub of : IsOf g made.proof
  pub contractions : ℕ
  pub reaches : Reaches p.tree contractions made.proof.tree
  pub count : made.reductions ≡ min contractions (2 ^ 64 - 1)
