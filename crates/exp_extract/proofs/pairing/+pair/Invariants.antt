-- The formulas get smaller: an instance is as large as the body.
use Rattle.std.proofs.Common.{◌+◌, ◌*◌}
use Rattle.free_variables.specs.Grade.{grade_of}
use Rattle.extraction_laws.specs.Addresses.{formula_at}
use Rattle.exp_extract.specs.Marked.{address_at}
use Rattle.exp_extract.proofs.pairing.+pair.Given as goal

abbrev pub decreases-pair : goal.decreases-pair
decreases-pair l = 2 * grade_of (formula_at (address_at l.marks.now l.left)) + 1

abbrev pub decreases-pair_parts : goal.decreases-pair_parts
decreases-pair_parts l = 2 * grade_of (formula_at (address_at l.marks.now l.left))

abbrev pub decreases-pair_turned : goal.decreases-pair_turned
decreases-pair_turned l = 2 * grade_of (formula_at (address_at l.marks.now l.left))
