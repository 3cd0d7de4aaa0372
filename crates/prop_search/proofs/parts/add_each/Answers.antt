use Rattle.prop_search.proofs.PartsListed.{keeps_through, listed_more}
use Rattle.prop_search.proofs.parts.add_each.Goals as goal

pub loop-formula-preserved : goal.loop-formula-preserved
loop-formula-preserved c =
    let at = c.loop-formula in
    let now = c.in_ok-add_parts.ensures in
    record {
      parts = now.parts;
      formed = now.formed;
      added = listed_more at.seen.keys c.add_parts.new.seen.keys c.args.formulas.now at.formula-index c.formula-item.result c.loop-formula-test.true c.formula-item.is now.kept at.invariant.added now.added;
      kept = keeps_through c.args.seen.now.keys at.seen.keys c.add_parts.new.seen.keys at.invariant.kept now.kept;
    }
