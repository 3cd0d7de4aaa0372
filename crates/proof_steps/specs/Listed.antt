-- What a listing of trees keeps.
use Rattle.std.specs.Prelude.{◌≡◌, ℕ, Bool, List, [], ◌∷◌, Some, map, slice_get, slice_index}
use Rattle.std.specs.Coded.{Coded}
use base.Stored.{coded×, coded_ℕ, coded_list, coded_via}
use Rattle.std.specs.HashMap as hash
use Rattle.std.specs.HashMap.{HashMap}
use Rattle.boxcar.specs.Table.{Shelves, shelves_coded}
use Rattle.proof_trees.specs.Trees.{Tree, Trees, none, more, rule_of, concl, below}
use Rattle.proof_graph.specs.declared.node.Node.{Node}
use Rattle.proof_trees.specs.Codes.{coded_tree}
use Rattle.step_laws.specs.Places.{places}

-- what contracts see of a listing: the graph that its references are of, the trees, and the numbers of the references that stand for them
pub record Listed : Type 0 where
  pub home : Shelves
  pub trees : List Tree
  pub numbers : List ℕ

abbrev pub coded_listed : Coded Listed
coded_listed =
    coded_via (coded× shelves_coded (coded× (coded_list coded_tree) (coded_list coded_ℕ))) (λ (l : Listed). (l.home, (l.trees, l.numbers)))
    (λ x y e i. record { home = (e i).0; trees = (e i).1.0; numbers = (e i).1.1 })

-- a tree or a number stands in a list
abbrev pub IsIn : {X : Type 0} → List X → X → Type 0
IsIn xs x = (i : ℕ) × (slice_get xs i ≡ Some x)

abbrev pub AllIn : List Tree → Trees → Type 0
AllIn xs none = Unit {0}
AllIn xs (more t ts) = IsIn xs t × AllIn xs ts

-- trees stand at these places
abbrev pub ArePlaces : List Tree → List ℕ → Trees → Type 0
ArePlaces xs [] none = Unit {0}
ArePlaces xs [] (more t ts) = ⊥
ArePlaces xs (i ∷ is) none = ⊥
ArePlaces xs (i ∷ is) (more t ts) = (slice_get xs i ≡ Some t) × ArePlaces xs is ts

-- nothing stands twice
abbrev pub AreDistinct : {X : Type 0} → List X → Type 0
AreDistinct {X = X} xs = (i j : ℕ) (x : X) → slice_get xs i ≡ Some x → slice_get xs j ≡ Some x → i ≡ j

-- with each tree those of its premises stand there
abbrev pub IsClosed : List Tree → Type 0
IsClosed xs = (t : Tree) → IsIn xs t → AllIn xs (below t)

-- the last inference of a tree, with the numbers of the references that stand for the trees of its premises
abbrev pub key_in : List Tree → List ℕ → Tree → Node
key_in xs ns t = record { rule = rule_of t; end = concl t; premises = map (slice_index ns) (places xs (below t)) }

-- a map gives for each key of a list its place, and nothing else
pub record GivesPlaces {K S : Type 0} (same : K → K → Bool) (m : HashMap K ℕ S) (keys : List K) : Type 0 where
  pub found : (i : ℕ) (k : K) → slice_get keys i ≡ Some k → hash.get same m k ≡ Some i
  pub listed : (k : K) (i : ℕ) → hash.get same m k ≡ Some i → slice_get keys i ≡ Some k
