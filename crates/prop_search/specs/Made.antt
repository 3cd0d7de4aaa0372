-- What tables say of the proofs and the sides that were made of sequents by number.
use Rattle.std.specs.Prelude.{◌≡◌, ℕ, nat_eq, List, IfSome}
use Rattle.std.specs.HashMap as hash
use Rattle.fol.specs.Syntax.{Formula}
use Rattle.proof_graph.specs.declared.graph.Graph.{Graph}
use Rattle.proof_graph.specs.Graphs.{IsOf}
use Rattle.proof_graph.specs.References.{Reference}
use Rattle.search_laws.specs.Search.{proved, walk}
use Rattle.prop_search.specs.declared.made.Made.{Made}
use Rattle.prop_search.specs.Bits.{has_number}
use Rattle.prop_search.specs.Formulas.{sequent_of, side_of}

-- the reference is of the graph, and means the proof that the search finds from the sequent
pub record IsProofOf (g : Graph) (fs : List Formula) (words : List ℕ) (r : Reference) : Type 0 where
  pub of : IsOf g r
  pub tree : walk (sequent_of fs words) ≡ proved r.tree

-- each proof of the tables is that of its sequent, and each side has the formulas of its numbers
pub record AreMade (g : Graph) (fs : List Formula) (t : Made) : Type 0 where
  pub proofs : (q : ℕ) → IfSome (hash.get nat_eq t.proofs q) (λ e. IsProofOf g fs e.sequent e.proof)
  pub sides : (q : ℕ) → IfSome (hash.get nat_eq t.sides q) (λ e. e.formulas ≡ side_of fs (has_number e.words.items))
