-- Which proof without cuts is reached from which proof.
use Rattle.std.specs.Prelude.{◌≡◌, ℕ, Some}
use Rattle.std.specs.FinMap as fin
use Rattle.std.specs.Ordering.{nat_cmp}
use Rattle.std.specs.declared.cmp.Ordering.TheVariants.{Equal}
use Rattle.std.proofs.Common.{subst}
use Rattle.proof_graph.specs.declared.graph.Graph.{Graph}
use Rattle.proof_graph.specs.References.{Reference}
use Rattle.proof_graph.specs.Graphs.{IsOf}
use Rattle.cut_laws.specs.Elimination.{elimination}
use Rattle.cut_elim.specs.declared.known.Reduced.{Reduced}
use Rattle.cut_elim.specs.declared.known.Elimination.{Elimination}

-- from the tree of p the tree without cuts is reached, by just so many contractions
pub record IsReduced (g : Graph) (p : Reference) (made : Reduced) : Type 0 where
  pub of : IsOf g made.proof
  pub is : elimination p.tree made.reductions ≡ Some (made.proof.tree, made.reductions)

-- the proof has the number in the graph, and the other is reached from it
pub record IsElimination (g : Graph) (n : ℕ) (e : Elimination) : Type 0 where
  pub of : IsOf g e.proof
  pub number : e.proof.number ≡ n
  pub reduced : IsReduced g e.proof e.reduced

pub elimination_respects : (g : Graph) (a b : ℕ) (e : Elimination) → nat_cmp a b ≡ Equal → IsElimination g a e → IsElimination g b e
elimination_respects g a b e tie h = subst (λ (n : ℕ). IsElimination g n e) (fin.nat_cmp-IsAntisymmetric a b tie) h
