-- Proofs with two parts, and interpolations, by numbers.
--     IsPartitionAt      a proof and two parts stand at the numbers, as interpolation asks for them
--     itp_at      their interpolation
--     IsInterpolatedAt, interpolation_at      an interpolation stands at the numbers; which one it is
--     HasInterpolation      a given one stands there
--     number_of      the number of the proof in which the interpolant stands on that side
--     other_number      that of the other proof
--     with_number      the same with another proof on that side
--     part_number      the number of the part of that name
--     IsKnown, AreKnown      what a table says of the interpolations that were found
use Rattle.std.specs.Prelude.{ℕ, List, IfSome}
use Rattle.std.specs.HashMap as hash
use Rattle.std.specs.HashMap.{HashMap}
use Rattle.lk_rules.specs.declared.sequent.Side.{Side}
use Rattle.lk_rules.specs.declared.sequent.Side.TheVariants.{Left, Right}
use Rattle.interp_laws.specs.Interpolation.{Interpolation, itp}
use Rattle.interp_laws.specs.Parts.{HasParts}
use Rattle.arena_cells.specs.Items.{Item}
use Rattle.arena_cells.specs.Standing.{HasFormula, HasTree, formula_at, sequent_at, tree_at, IsFormulaAt, IsSequentAt, IsTreeAt}
use Rattle.arena_interp.specs.declared.partition.Partition.{Partition}
use Rattle.arena_interp.specs.declared.interpolated.Interpolated.{Interpolated}
use Rattle.arena_interp.specs.Keys.{same_partition}

pub record IsPartitionAt (a : List Item) (p : Partition) : Type 0 where
  pub proof : IsTreeAt a p.proof
  pub first : IsSequentAt a p.first
  pub second : IsSequentAt a p.second
  pub parts : HasParts (tree_at a p.proof) (sequent_at a p.first) (sequent_at a p.second)

abbrev pub itp_at : List Item → Partition → Interpolation
itp_at a p = itp (tree_at a p.proof) (sequent_at a p.first) (sequent_at a p.second)

pub record IsInterpolatedAt (a : List Item) (n : Interpolated) : Type 0 where
  pub formula : IsFormulaAt a n.formula
  pub first : IsTreeAt a n.first
  pub second : IsTreeAt a n.second

abbrev pub interpolation_at : List Item → Interpolated → Interpolation
interpolation_at a n = record { formula = formula_at a n.formula; first = tree_at a n.first; second = tree_at a n.second }

pub record HasInterpolation (a : List Item) (i : Interpolation) (n : Interpolated) : Type 0 where
  pub formula : HasFormula a n.formula i.formula
  pub first : HasTree a n.first i.first
  pub second : HasTree a n.second i.second

abbrev pub number_of : Interpolated → Side → ℕ
number_of n Right = n.first
number_of n Left = n.second

abbrev pub other_number : Interpolated → Side → ℕ
other_number n Right = n.second
other_number n Left = n.first

abbrev pub with_number : Interpolated → Side → ℕ → Interpolated
with_number n Right p = record n { first = p }
with_number n Left p = record n { second = p }

-- the number of the part of that name
abbrev pub part_number : ℕ → ℕ → Side → ℕ
part_number one two Right = one
part_number one two Left = two

-- the entry has the interpolation of the proof by the two parts at the numbers
pub record IsKnown (a : List Item) (p : Partition) (n : Interpolated) : Type 0 where
  pub partition : IsPartitionAt a p
  pub interpolation : HasInterpolation a (itp_at a p) n

-- each entry of a table does
abbrev pub AreKnown : {S : Type 0} → List Item → HashMap Partition Interpolated S → Type 0
AreKnown a table = (p : Partition) → IfSome (hash.get same_partition table p) (IsKnown a p)
