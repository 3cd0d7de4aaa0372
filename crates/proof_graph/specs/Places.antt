-- At which places keys stand.
use Rattle.std.specs.Prelude.{◌≡◌, ◌⊎◌, ℕ, nat_eq, Option, Some, None, IsSome}
use Rattle.std.specs.HashMap as hash
use Rattle.proof_graph.specs.declared.node.Node.{Node}
use Rattle.proof_graph.specs.declared.places.Places.{Places}
use Rattle.proof_graph.specs.Keys.{same_node, node_fingerprint}

-- the place of the first key with a fingerprint
abbrev pub first_at : Places → ℕ → Option ℕ
first_at p fingerprint = hash.get nat_eq p.firsts fingerprint

-- the place of a key that isn't the first with its fingerprint
abbrev pub other_at : Places → Node → Option ℕ
other_at p key = hash.get same_node p.others key

-- the key is found at the place: it is the first with its fingerprint, or it is found by itself
abbrev pub IsFoundAt : Places → Node → ℕ → Type 0
IsFoundAt p key place =
    (first_at p (node_fingerprint key) ≡ Some place)
    ⊎ (IsSome (first_at p (node_fingerprint key)) × (other_at p key ≡ Some place))

-- the same places
abbrev pub AreSame : Places → Places → Type 0
AreSame p q = ((fingerprint : ℕ) → first_at q fingerprint ≡ first_at p fingerprint) × ((key : Node) → other_at q key ≡ other_at p key)

-- the key has this place now, as the first with its fingerprint where there was none, and the others have those that they had
abbrev pub Notes : Places → Node → ℕ → Places → Type 0
Notes p key place q =
    ((first_at p (node_fingerprint key) ≡ None) × hash.Updates nat_eq p.firsts q.firsts (node_fingerprint key) (Some place) × ((n : Node) → other_at q n ≡ other_at p n))
    ⊎ (IsSome (first_at p (node_fingerprint key)) × ((f : ℕ) → first_at q f ≡ first_at p f) × hash.Updates same_node p.others q.others key (Some place))
