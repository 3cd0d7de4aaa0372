-- The instances of one more item.
use Rattle.std.proofs.Common.{sym, ◌∙◌}
use Rattle.cut_intro.proofs.EachInstance.{by_tuples_one}
use Rattle.cut_intro.proofs.instances.instances_of.Goals as goal

pub loop-item-preserved : goal.loop-item-preserved
loop-item-preserved c = record {
  so_far =
      by_tuples_one c.args.items.now c.loop-item.item-index c.item-item.result c.loop-item-test.true c.item-item.is c.loop-item.list.items c.push_instances.new.list.items c.side.result c.formula.result.now c.as_slice.result.now
      c.loop-item.invariant.so_far (sym c.side.ensures) (sym c.formula.ensures.formula) (c.as_slice.ensures.tuples ∙ c.tuples.ensures.tuples) c.in_ok-push_instances.ensures.items;
  formed = c.push_instances.ensures.formed;
}
