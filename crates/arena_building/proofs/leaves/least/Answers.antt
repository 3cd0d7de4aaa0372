-- The least so far.
use Rattle.std.proofs.Common.{◌+◌, get_or, take, Some, sym, subst}
use Rattle.arena_cells.specs.Standing.{IsFormulaAt}
use Rattle.arena_building.specs.Leaves.{IsLeastAt}
use Rattle.arena_building.proofs.Least.{least_more, lesser_there}
use Rattle.arena_building.proofs.leaves.least.Goals as goal

pub loop-number-preserved : goal.loop-number-preserved
loop-number-preserved c =
    let a = c.args.arena.now in
    let ns = c.args.numbers.now in
    let i = c.loop-number.number-index in
    let least = c.loop-number.least in
    record {
      there = subst (λ r. IsFormulaAt a r) (sym c.lesser.ensures) (lesser_there a least (get_or ns i 0) c.loop-number.invariant.there (c.requires i 0 c.loop-number-test.true));
      least = subst (λ r. IsLeastAt a (take (i + 1) ns) (Some r)) (sym c.lesser.ensures) (least_more a ns i 0 least c.loop-number-test.true c.loop-number.invariant.least);
    }
