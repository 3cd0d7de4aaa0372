-- Shared lists of formulas, with their fingerprints.
use Rattle.std.specs.Prelude.{◌≡◌, ℕ, List, [], fold, Option, Some, None}
use Rattle.std.specs.Arc.{arc_value}
use Rattle.std.specs.declared.sync.Arc.{Arc}
use Rattle.fol.specs.Syntax.{Formula}
use Rattle.fol.specs.Facts.{formula_fingerprint}
use Rattle.fol.specs.Mixing.{mixed}
use Rattle.lk_rules.specs.declared.items.Listing.{Listing}

-- a number in which unequal lists mostly differ
unfoldable pub list_fingerprint : List Formula → ℕ
list_fingerprint = fold (λ h f. mixed h (formula_fingerprint f)) 19

-- the formulas of a stored list, which may be that of no formula
abbrev pub items_of : {A : Type 0} → Option (Arc Listing A) → List Formula
items_of None = []
items_of (Some a) = (arc_value a).items.items

-- a stored list keeps its own fingerprint
abbrev pub IsPrinted : {A : Type 0} → Option (Arc Listing A) → Type 0
IsPrinted None = Unit {0}
IsPrinted (Some a) = (arc_value a).fingerprint ≡ list_fingerprint (arc_value a).items.items
