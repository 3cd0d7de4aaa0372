-- Addresses that have the images of formulas.
use Rattle.std.specs.Prelude.{◌≡◌, true}
use Rattle.std.specs.FinMap as fin
use Rattle.fol.specs.Syntax.{Formula}
use Rattle.finite.specs.Finite as set
use Rattle.substitution.specs.Image.{image}
use Rattle.substitution.specs.Maps.{Map}
use Rattle.lk_rules.specs.declared.sequent.Sequent.{Sequent}
use Rattle.lk_rules.specs.declared.sequent.Side.{Side}
use Rattle.lk_rules.specs.Sequents.{side_of}
use Rattle.extraction_laws.specs.Addresses.{Address, formula_at, side_at}
use Rattle.extraction_laws.specs.Extraction.{Context}

-- the address has the image of the formula, on the side s
pub record HasImage (m : Map) (a : Address) (s : Side) (f : Formula) : Type 0 where
  pub formula : formula_at a ≡ image (fin.get m) f
  pub side : side_at a ≡ s

-- so it is for each formula of a sequent
abbrev pub HaveImages : Map → Context → Sequent → Type 0
HaveImages m c e = (s : Side) (f : Formula) → set.has (side_of e s) f ≡ true → HasImage m (c s f) s f
