-- Proofs that were gone through.
use Rattle.std.specs.Prelude.{◌≡◌, ℕ, ◌<◌, nat_eq, List, length, IfSome}
use Rattle.std.specs.HashMap as hash
use Rattle.substitution.specs.Maps.{Map}
use Rattle.proof_trees.specs.Trees.{Tree, concl, IsValid}
use Rattle.proof_graph.specs.declared.graph.Graph.{Graph}
use Rattle.proof_graph.specs.Graphs.{IsOf}
use Rattle.extraction_laws.specs.Extraction.{walked}
use Rattle.exp_extract.specs.declared.sides.Sides.{Sides}
use Rattle.exp_extract.specs.declared.visits.Visit.{Visit}
use Rattle.exp_extract.specs.declared.visits.Visits.{Visits}
use Rattle.exp_extract.specs.Marked.{Marked}
use Rattle.exp_extract.specs.MapList.{map_in}
use Rattle.exp_extract.specs.Sides.{context_in, AreSides}

-- going through the proof, with the map of that number and these addresses, leaves no new mark
abbrev pub IsDone : List Map → Marked → Tree → ℕ → Sides → Type 0
IsDone ms m t k x = walked m.outside t (map_in ms k) (context_in m.addresses (concl t) x) m.state ≡ m.state

pub record IsVisit (g : Graph) (ms : List Map) (m : Marked) (v : Visit) : Type 0 where
  pub of : IsOf g v.proof
  pub valid : IsValid v.proof.tree
  pub map : v.map < length ms
  pub sides : AreSides m.addresses (concl v.proof.tree) v.sides
  pub done : IsDone ms m v.proof.tree v.map v.sides

-- so it is with each proof of the table
pub record AreVisits (g : Graph) (ms : List Map) (m : Marked) (t : Visits) : Type 0 where
  pub visits : (q : ℕ) → IfSome (hash.get nat_eq t.visits q) (IsVisit g ms m)
