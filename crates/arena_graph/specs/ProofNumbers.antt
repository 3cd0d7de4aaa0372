-- What tables say of the proofs of a graph that stand at numbers of an arena.
use Rattle.std.specs.Prelude.{ℕ, List}
use Rattle.std.specs.List.{All}
use Rattle.proof_graph.specs.declared.graph.Graph.{Graph}
use Rattle.proof_graph.specs.Graphs.{IsOf}
use Rattle.proof_graph.specs.References.{Reference}
use Rattle.arena_cells.specs.Items.{Item}
use Rattle.arena_cells.specs.Standing.{HasSide, HasTree}
use Rattle.arena_graph.specs.declared.proof_numbers.ProofNumbers.{ProofNumbers as Tables}
use Rattle.proof_trees.specs.Conclusions.{HasFormedEnd}
use Rattle.arena_graph.specs.Ranks.{AreRanks}
use Rattle.arena_graph.specs.LastSide.{IsLastSide}

-- the reference is of the graph, and its tree stands at the number
pub record IsProofAt (g : Graph) (a : List Item) (n : ℕ) (r : Reference) : Type 0 where
  pub of : IsOf g r
  pub tree : HasTree a n r.tree
  pub formed : HasFormedEnd r.tree

-- each proof of the tables is of the graph, and stands at its number, as does each side; the order of formulas is right, and so are the
-- places of the sides that went out last
pub record AreNumbersOf (g : Graph) (a : List Item) (t : Tables) : Type 0 where
  pub proofs : All (λ e. IsProofAt g a e.number e.proof) t.proofs.items
  pub sides : All (λ e. HasSide a e.number e.formulas) t.sides.items
  pub ranks : AreRanks a t.ranks
  pub left : IsLastSide a t.ranks.entries.items t.left
  pub right : IsLastSide a t.ranks.entries.items t.right
