-- One more formula.
use Rattle.exp_extract.proofs.ToldApart.{told_more}
use Rattle.exp_extract.proofs.fingerprints.is_told_apart.Goals as goal

pub loop-other-preserved : goal.loop-other-preserved
loop-other-preserved c =
    told_more c.args.formulas.now c.args.formula.now c.other-item.result c.loop-other.other-index c.loop-other-test.true c.other-item.is (c.are_told.ensures c.if-not-are_told.false) c.loop-other.invariant
