-- Events on the pairs of a table: pairs that are noted, by whomever.
use Rattle.std.specs.Prelude.{◌≡◌, ◌⊎◌, List, [], ◌∷◌, ◌++◌}
use Rattle.std.specs.declared.cmp.Ordering.{Ordering}
use mathlib.Core.List.{IsPrefix}
use Rattle.memo_table.specs.declared.rows.Pair.{Pair}
use Rattle.memo_table.specs.Pairs.{IsIn, IsAbsent, pair}

-- a pair may be noted where its value is true of its key, and no key that is there compares equal
pub record MayFollow {K V : Type 0} (truth : K → V → Type 0) (cmp : K → K → Ordering) (pairs : List (Pair K V)) (p : Pair K V) : Type 0 where
  pub key : IsAbsent cmp pairs p.key
  pub sound : truth p.key p.val

-- it is then added at the end
abbrev pub noted : {K V : Type 0} → List (Pair K V) → Pair K V → List (Pair K V)
noted pairs p = pairs ++ p ∷ []

-- each event of a list may follow on those before it
abbrev pub AreAllowed : {K V : Type 0} → (K → V → Type 0) → (K → K → Ordering) → List (Pair K V) → List (Pair K V) → Type 0
AreAllowed truth cmp pairs [] = Unit {0}
AreAllowed truth cmp pairs (p ∷ ps) = MayFollow truth cmp pairs p × AreAllowed truth cmp (noted pairs p) ps

-- the pairs after a list of events
abbrev pub after_all : {K V : Type 0} → List (Pair K V) → List (Pair K V) → List (Pair K V)
after_all pairs [] = pairs
after_all pairs (p ∷ ps) = after_all (noted pairs p) ps

-- pairs that have the key stay as they are; to those that haven't the pair of the key and the value is added
abbrev pub Adds : {K V : Type 0} → (K → K → Ordering) → List (Pair K V) → K → V → List (Pair K V) → Type 0
Adds cmp pairs key val new = (IsIn cmp pairs key × (new ≡ pairs)) ⊎ (IsAbsent cmp pairs key × (new ≡ noted pairs (pair key val)))

-- pairs go on from old ones, perhaps by those of others, and then by this one where the key wasn't there
abbrev pub AddsAtMost : {K V : Type 0} → (K → K → Ordering) → List (Pair K V) → K → V → List (Pair K V) → Type 0
AddsAtMost {K} {V} cmp old key val new = (pairs : List (Pair K V)) × IsPrefix old pairs × Adds cmp pairs key val new
