-- The addresses of a sequent's formulas, by number, and those of a premise's.
--     IsPlaceOf, HasNotBetween      the formula stands at a place of a list, or at none of several
--     number_in, context_in      the number of a formula, and its address
--     HasCounts, AreSides      there is a number for each formula
--     IsKnownDistinct      what is said of fingerprints is true
--     auxiliary_place, AreAuxiliaries      the numbers of the addresses of auxiliary formulas
--     inner_number, AreInner      those of a premise's formulas
use Rattle.std.specs.Prelude.{◌≡◌, ℕ, zero, suc, ◌<◌, ◌≤◌, true, false, if◌then◌else◌, List, [], ◌∷◌, length, get_or, map, Option, Some, None, IfSome, IsTrue}
use Rattle.std.specs.Ordering.{eq_by_cmp}
use Rattle.fol.specs.declared.symbols.Var.{Var}
use Rattle.fol.specs.Syntax.{Formula, top}
use Rattle.fol.specs.Order.{formula_cmp}
use Rattle.finite.specs.Finite as set
use Rattle.substitution.specs.Maps.{Map}
use Rattle.lk_rules.specs.declared.sequent.Sequent.{Sequent}
use Rattle.lk_rules.specs.declared.sequent.Side.{Side}
use Rattle.lk_rules.specs.declared.sequent.Side.TheVariants.{Left, Right}
use Rattle.lk_rules.specs.declared.rule.Rule.{Rule}
use Rattle.lk_rules.specs.Sequents.{side_of}
use Rattle.extraction_laws.specs.Addresses.{Address, root}
use Rattle.extraction_laws.specs.Extraction.{Context, auxiliary_address}
use Rattle.exp_extract.specs.declared.sides.Sides.{Sides}
use Rattle.exp_extract.specs.declared.sides.Auxiliary.{Auxiliary}
use Rattle.exp_extract.specs.declared.sides.Auxiliary.TheVariants.{Absent, Only, ByPremise, BySide, ByFormula}
use Rattle.exp_extract.specs.Marked.{address_in}
use Rattle.exp_extract.specs.Entries.{IsChild}
use Rattle.exp_extract.specs.Fingerprints.{HasDistinctSides}
use Rattle.exp_extract.specs.Quantifiers.{AreWithin}

-- the formula stands at this place
abbrev pub IsPlaceOf : List Formula → Formula → ℕ → Type 0
IsPlaceOf fs h i = (i < length fs) × ((d : Formula) → eq_by_cmp formula_cmp h (get_or fs i d) ≡ true)

-- the formula stands at none of the places from one on and before another
abbrev pub HasNotBetween : List Formula → ℕ → ℕ → Formula → Type 0
HasNotBetween fs from to h = (i : ℕ) (d : Formula) → from ≤ i → i < to → eq_by_cmp formula_cmp h (get_or fs i d) ≡ false

-- the number of a formula, where the formulas of a list have these numbers
abbrev pub number_in : List Formula → List ℕ → Formula → Option ℕ
number_in [] ns h = None
number_in (f ∷ fs) [] h = None
number_in (f ∷ fs) (n ∷ ns) h = if eq_by_cmp formula_cmp h f then Some n else number_in fs ns h

-- the address of a number, and some address where there is none
abbrev pub address_or : List Address → Option ℕ → Address
address_or bs None = root Left top
address_or bs (Some n) = address_in bs n

abbrev pub numbers_of : Sides → Side → List ℕ
numbers_of x Left = x.left.items
numbers_of x Right = x.right.items

-- the addresses of the sequent's formulas
abbrev pub context_in : List Address → Sequent → Sides → Context
context_in bs s x side h = address_or bs (number_in (set.listing (side_of s side)) (numbers_of x side) h)

-- there are as many numbers as formulas on each side
abbrev pub HasCounts : Sequent → Sides → Type 0
HasCounts s x = (side : Side) → length (numbers_of x side) ≡ length (set.listing (side_of s side))

-- where no fingerprint is said to stand twice on a side, none does
abbrev pub IsKnownDistinct : Sequent → Sides → Type 0
IsKnownDistinct s x = IsTrue x.distinct → HasDistinctSides s

pub record AreSides (bs : List Address) (s : Sequent) (x : Sides) : Type 0 where
  pub counts : HasCounts s x
  pub within : (side : Side) → AreWithin bs (numbers_of x side)
  pub distinct : IsKnownDistinct s x

-- the number of the address of an auxiliary formula of a premise
abbrev pub auxiliary_place : Auxiliary → ℕ → Side → Formula → Option ℕ
auxiliary_place Absent i side h = None
auxiliary_place (Only p) i side h = Some p
auxiliary_place (ByPremise p q) zero side h = Some p
auxiliary_place (ByPremise p q) (suc i) side h = Some q
auxiliary_place (BySide p q) i Left h = Some p
auxiliary_place (BySide p q) i Right h = Some q
auxiliary_place (ByFormula f p q) i side h = if eq_by_cmp formula_cmp h f then Some p else Some q

-- these are the addresses that the rule gives, where the main formula has the address a
abbrev pub AreAuxiliaries : List Address → Auxiliary → Rule → Map → Var → Address → Type 0
AreAuxiliaries bs x r m v a = (i : ℕ) (side : Side) (h : Formula) → i < 2 → IfSome (auxiliary_place x i side h) (IsChild bs (auxiliary_address r m v a i side h))

abbrev pub or_else : Option ℕ → Option ℕ → Option ℕ
or_else (Some n) o = Some n
or_else None o = o

-- the number of a formula of a premise: that in the conclusion, where it stands there, and else that of an auxiliary formula
abbrev pub inner_number : List Formula → List ℕ → Auxiliary → ℕ → Side → Formula → Option ℕ
inner_number fs ns x i side h = or_else (number_in fs ns h) (auxiliary_place x i side h)

-- the numbers of the formulas of a premise with this end sequent
abbrev pub AreInner : Sequent → Sides → Auxiliary → ℕ → Sequent → Sides → Type 0
AreInner s x a i e y = (side : Side) → map Some (numbers_of y side) ≡ map (inner_number (set.listing (side_of s side)) (numbers_of x side) a i side) (set.listing (side_of e side))
