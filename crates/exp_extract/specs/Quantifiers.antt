-- Quantifiers on their sides, and lists of addresses that grow.
--     is_weak, is_strong      quantifiers that may have several instances, and those with one by a variable
--     is_instance      the address of an instance at a weak quantifier
--     Grows, AreWithin      addresses keep their numbers; numbers are those of addresses
use Rattle.std.specs.Prelude.{◌≡◌, ℕ, ◌<◌, Bool, true, false, nat_eq, List, length}
use Rattle.std.specs.List.{list_any}
use Rattle.fol.specs.Syntax.{Formula, all, ex}
use Rattle.lk_rules.specs.declared.sequent.Side.{Side}
use Rattle.lk_rules.specs.declared.sequent.Side.TheVariants.{Left, Right}
use Rattle.extraction_laws.specs.Addresses.{Address, via, formula_at, side_at}
use Rattle.exp_extract.specs.Marked.{address_in}

abbrev pub is_weak : Formula → Side → Bool
is_weak (all f) Left = true
is_weak (ex f) Right = true
is_weak f s = false

abbrev pub is_strong : Formula → Side → Bool
is_strong (all f) Right = true
is_strong (ex f) Left = true
is_strong f s = false

-- the quantifier at an address is weak
abbrev pub IsWeakAt : Address → Type 0
IsWeakAt a = is_weak (formula_at a) (side_at a) ≡ true

abbrev pub IsStrongAt : Address → Type 0
IsStrongAt a = is_strong (formula_at a) (side_at a) ≡ true

abbrev pub is_instance : Address → Bool
is_instance (via a t) = is_weak (formula_at a) (side_at a)
is_instance a = false

-- each number of an address is its number in the second list too
abbrev pub Grows : List Address → List Address → Type 0
Grows bs cs = (n : ℕ) → n < length bs → (n < length cs) × (address_in cs n ≡ address_in bs n)

-- the numbers are those of addresses
abbrev pub AreWithin : List Address → List ℕ → Type 0
AreWithin bs ns = (q : ℕ) → list_any (nat_eq q) ns ≡ true → q < length bs
