-- How addresses are coded as trees of numbers, so that a proof can tell them apart.
use Rattle.std.specs.Prelude.{◌≡◌, refl}
use Rattle.std.specs.Coded.{Coded}
use base.Stored.{Gv, gnum, gcons}
use Rattle.fol.specs.Codes.{coded_formula, coded_term}
use Rattle.lk_rules.specs.declared.sequent.Side.{Side}
use Rattle.lk_rules.specs.declared.sequent.Side.TheVariants.{Left, Right}
use Rattle.extraction_laws.specs.Addresses.{Address, root, part, via}

abbrev pub side_code : Side → Gv
side_code Left = gnum 0
side_code Right = gnum 1

pub same_side : (s r : Side) → side_code s ≡ side_code r → s ≡ r
same_side Left Left h = refl
same_side Left Right h = cc
same_side Right Left h = cc
same_side Right Right h = refl

-- the number of the kind, then the parts
abbrev pub address_code : Address → Gv
address_code (root s f) = gcons (gnum 0) (gcons (side_code s) (coded_formula.code f))
address_code (part a i) = gcons (gnum 1) (gcons (gnum i) (address_code a))
address_code (via a t) = gcons (gnum 2) (gcons (coded_term.code t) (address_code a))

pub same_code : (a b : Address) → address_code a ≡ address_code b → a ≡ b
same_code (root s f) (root r g) h =
    let sides : side_code s ≡ side_code r = cc in
    let formulas : coded_formula.code f ≡ coded_formula.code g = cc in
    λ i. root (same_side s r sides i) (coded_formula.inj f g formulas i)
same_code (part a j) (part b k) h =
    let numbers : j ≡ k = cc in
    let codes : address_code a ≡ address_code b = cc in
    λ i. part (same_code a b codes i) (numbers i)
same_code (via a t) (via b u) h =
    let terms : coded_term.code t ≡ coded_term.code u = cc in
    let codes : address_code a ≡ address_code b = cc in
    λ i. via (same_code a b codes i) (coded_term.inj t u terms i)
same_code a b h = cc

abbrev pub coded_address : Coded Address
coded_address = record { code = address_code; inj = same_code }
