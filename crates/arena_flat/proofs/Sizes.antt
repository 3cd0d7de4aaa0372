-- A formula with few nodes has, with all unfolded, few quantifiers inside one another.
use Rattle.std.proofs.Common.{◌^◌, ◌≤◌, arith}
use Rattle.fol.specs.Syntax.{Formula}
use Rattle.fol.specs.Facts.{formula_size}
use Rattle.def_laws.proofs.Sizes.{nesting-flat_within}
use Rattle.arena_flat.specs.Short.{IsShort}

pub short_of : (f : Formula) → formula_size f ≤ 2 ^ 26 → IsShort f
short_of f small = omega (arith, nesting-flat_within f)
