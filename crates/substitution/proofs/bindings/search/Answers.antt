-- The search narrows to the place.
use Rattle.std.proofs.Common.{◌<◌, ◌+◌, ◌-◌, ◌/◌, length, sym, arith}
use Rattle.fol.specs.Order.{var_cmp}
use Rattle.fol.specs.OrderLaws.{var_total}
use Rattle.substitution.proofs.Places.{low_more, high_more, place_of_tie, place_of_gap}
use Rattle.substitution.proofs.bindings.search.Goals as goal

pub loop-low-preserved-in-Less : goal.loop-low-preserved-in-Less
loop-low-preserved-in-Less c =
    let in_list : c.loop-low.low + (c.loop-low.high - c.loop-low.low) / 2 < length c.args.items.now = omega arith in
    record {
      within = omega arith;
      in_range = c.loop-low.invariant.in_range;
      below = low_more var_cmp var_total c.args.var.now c.args.items.now c.requires _ c.index-items-middle.result in_list c.index-items-middle.is (sym c.in-Less.ensures.value);
      above = c.loop-low.invariant.above;
    }

pub returns-in-Equal-clause-place : goal.returns-in-Equal-clause-place
returns-in-Equal-clause-place c =
    let in_list : c.loop-low.low + (c.loop-low.high - c.loop-low.low) / 2 < length c.args.items.now = omega arith in
    place_of_tie var_cmp var_total c.args.var.now c.args.items.now c.requires _ c.index-items-middle.result in_list c.index-items-middle.is (sym c.in-Equal.ensures.value)

pub loop-low-preserved : goal.loop-low-preserved
loop-low-preserved c =
    let in_list : c.loop-low.low + (c.loop-low.high - c.loop-low.low) / 2 < length c.args.items.now = omega arith in
    record {
      within = omega arith;
      in_range = omega arith;
      below = c.loop-low.invariant.below;
      above = high_more var_cmp var_total c.args.var.now c.args.items.now c.requires _ c.index-items-middle.result in_list c.index-items-middle.is (sym c.in-Greater.ensures.value);
    }

pub returns-clause-place : goal.returns-clause-place
returns-clause-place c =
    place_of_gap var_cmp var_total c.args.var.now c.args.items.now c.requires c.loop-low.low (omega arith) c.loop-low.invariant.below
    (λ j d from to. c.loop-low.invariant.above j d (omega arith) to)
