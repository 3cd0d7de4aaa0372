-- Two addresses of one formula on the two sides, as at an axiom.
use Rattle.std.specs.Prelude.{◌≡◌, ℕ, ◌<◌}
use Rattle.fol.specs.Syntax.{Formula}
use Rattle.free_variables.specs.Grade.{grade_of}
use Rattle.lk_rules.specs.declared.sequent.Side.{Side}
use Rattle.lk_rules.specs.declared.sequent.Side.TheVariants.{Left, Right}
use Rattle.expansion_laws.specs.Expansions.{turn}
use Rattle.extraction_laws.specs.Addresses.{part_formula, part_side, formula_at, side_at}
use Rattle.exp_extract.specs.Marked.{Marked, address_at, IsPlace}

-- the numbers are those of an address on the left and one on the right with the same formula
pub record ArePaired (m : Marked) (l r : ℕ) : Type 0 where
  pub left : IsPlace m l
  pub right : IsPlace m r
  pub formula : formula_at (address_at m l) ≡ formula_at (address_at m r)
  pub left_side : side_at (address_at m l) ≡ Left
  pub right_side : side_at (address_at m r) ≡ Right

-- the part of a formula is smaller, and stands on the same side
pub record IsPart (f : Formula) (i : ℕ) : Type 0 where
  pub small : i < 2
  pub smaller : grade_of (part_formula f i) < grade_of f
  pub side : (s : Side) → part_side f i s ≡ s

-- or on the other side
pub record IsTurnedPart (f : Formula) (i : ℕ) : Type 0 where
  pub small : i < 2
  pub smaller : grade_of (part_formula f i) < grade_of f
  pub side : (s : Side) → part_side f i s ≡ turn s
