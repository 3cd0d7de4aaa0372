-- Lists of pairs of a key and a value.
use Rattle.std.specs.Prelude.{◌≡◌, ◌≢◌, List}
use Rattle.std.specs.List.{All, Any, AllPairs}
use Rattle.std.specs.declared.cmp.Ordering.{Ordering}
use Rattle.std.specs.declared.cmp.Ordering.TheVariants.{Equal}
use Rattle.memo_table.specs.declared.rows.Pair.{Pair}

abbrev pub pair : {K V : Type 0} → K → V → Pair K V
pair key val = record { key = key; val = val }

module _ {K V : Type 0} (cmp : K → K → Ordering) where
  -- a key that compares equal stands in the list
  abbrev pub IsIn : List (Pair K V) → K → Type 0
  IsIn pairs key = Any (λ p. cmp p.key key ≡ Equal) pairs

  -- no key of the list compares equal
  abbrev pub IsAbsent : List (Pair K V) → K → Type 0
  IsAbsent pairs key = All (λ p. cmp p.key key ≢ Equal) pairs

-- each value is true of its key, and no two keys compare equal
pub record IsLegal {K V : Type 0} (truth : K → V → Type 0) (cmp : K → K → Ordering) (pairs : List (Pair K V)) : Type 0 where
  pub sound : All (λ p. truth p.key p.val) pairs
  pub apart : AllPairs (λ p q. cmp p.key q.key ≢ Equal) pairs
