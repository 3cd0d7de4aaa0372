use Rattle.prop_search.proofs.Picked.{picked_more}
use Rattle.prop_search.proofs.sides.picked.Goals as goal

pub loop-i-preserved : goal.loop-i-preserved
loop-i-preserved c =
    picked_more c.args.words.now c.args.formulas.now c.loop-i.i c.index-formulas-i.result c.loop-i.picked.items c.push_where.new.formulas.items c.has.result
    c.requires.rises c.loop-i-test.true c.index-formulas-i.is c.has.ensures c.loop-i.invariant c.in_ok-push_where.ensures
