-- What an index keeps.
use Rattle.std.specs.Prelude.{◌≡◌, ◌≢◌, ℕ, ◌<◌, ◌≤◌, length, Some, slice_index_or}
use Rattle.std.specs.List.{All, AllPairs}
use Rattle.proof_trees.specs.Trees.{IsValid}
use Rattle.proof_graph.specs.declared.node.Node.{Node}
use Rattle.proof_graph.specs.declared.index.Index.TheInside.{Inside}
use Rattle.proof_graph.specs.References.{Reference, key_of}
use Rattle.proof_graph.specs.History.{Recorded}
use Rattle.proof_graph.specs.Places.{first_at, other_at, IsFoundAt}

abbrev pub recorded : Inside → Recorded
recorded i = record { home = i.home.value; history = i.refs.items }

-- the references are of one graph, with keys that differ and numbers that differ and are at most `top`. The key of each is found at its
-- place, and what is found is a place, of a key that is found by itself that key's
pub record IsIndexed (i : Inside) : Type 0 where
  pub home : All (λ r. r.home ≡ i.home.value) i.refs.items
  pub valid : All (λ r. IsValid r.tree) i.refs.items
  pub top : All (λ r. r.number ≤ i.top) i.refs.items
  pub keys : AllPairs (λ r s. key_of r ≢ key_of s) i.refs.items
  pub numbers : AllPairs (λ r s. r.number ≢ s.number) i.refs.items
  pub found : (k : ℕ) (d : Reference) → k < length i.refs.items → IsFoundAt i.places (key_of (slice_index_or i.refs.items k d)) k
  pub first : (fingerprint k : ℕ) → first_at i.places fingerprint ≡ Some k → k < length i.refs.items
  pub other : (n : Node) (k : ℕ) → other_at i.places n ≡ Some k → (k < length i.refs.items) × ((d : Reference) → key_of (slice_index_or i.refs.items k d) ≡ n)
