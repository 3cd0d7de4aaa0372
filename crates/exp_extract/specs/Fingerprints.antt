-- Formulas that their fingerprints tell apart.
--     IsToldApart      a formula is equal to each of a list that has its fingerprint
--     IsNewAt, HasDistinctFingerprints, HasDistinctSides      no fingerprint stands twice in a list, or on a side of a sequent
--     IsAmong, AreAmong      formulas of one list or another
use Rattle.std.specs.Prelude.{◌≡◌, ℕ, ◌<◌, true, false, ◌||◌, nat_eq, List, length, get_or}
use Rattle.std.specs.List.{list_any}
use Rattle.std.specs.Ordering.{eq_by_cmp}
use Rattle.fol.specs.Facts.{formula_fingerprint}
use Rattle.fol.specs.Syntax.{Formula}
use Rattle.fol.specs.Order.{formula_cmp}
use Rattle.finite.specs.Finite as set
use Rattle.lk_rules.specs.declared.sequent.Sequent.{Sequent}
use Rattle.lk_rules.specs.declared.sequent.Side.{Side}
use Rattle.lk_rules.specs.Sequents.{side_of}

-- the formula is equal to each of the list that has its fingerprint
abbrev pub IsToldApart : List Formula → Formula → Type 0
IsToldApart fs h = (i : ℕ) (d : Formula) → i < length fs → formula_fingerprint h ≡ formula_fingerprint (get_or fs i d) → h ≡ get_or fs i d

-- the fingerprint at a place is none of those before it
abbrev pub IsNewAt : List Formula → ℕ → Type 0
IsNewAt fs j = (i : ℕ) (d : Formula) → i < j → nat_eq (formula_fingerprint (get_or fs i d)) (formula_fingerprint (get_or fs j d)) ≡ false

-- no fingerprint stands twice
abbrev pub HasDistinctFingerprints : List Formula → Type 0
HasDistinctFingerprints fs = (j : ℕ) → j < length fs → IsNewAt fs j

abbrev pub HasDistinctSides : Sequent → Type 0
HasDistinctSides s = (side : Side) → HasDistinctFingerprints (set.listing (side_of s side))

-- the formula is one of the first list or of the second
abbrev pub IsAmong : List Formula → List Formula → Formula → Type 0
IsAmong fs gs h = (list_any (eq_by_cmp formula_cmp h) fs || list_any (eq_by_cmp formula_cmp h) gs) ≡ true

-- each formula of a list is one of the first list or of the second
abbrev pub AreAmong : List Formula → List Formula → List Formula → Type 0
AreAmong fs gs hs = (h : Formula) → list_any (eq_by_cmp formula_cmp h) hs ≡ true → IsAmong fs gs h
