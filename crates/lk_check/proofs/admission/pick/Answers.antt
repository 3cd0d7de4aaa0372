-- The next reference is picked.
use Rattle.std.proofs.Common.{◌∙◌}
use Rattle.lk_check.proofs.Picks.{picked_more}
use Rattle.lk_check.proofs.admission.pick.Goals as goal

pub loop-premise-preserved : goal.loop-premise-preserved
loop-premise-preserved c =
    c.in_ok-push.ensures.items
    ∙ (rw c.in_ok-keep.ensures (picked_more c.args.proofs.now c.args.premises.now c.loop-premise.premise-index c.index-proofs-premise.result c.loop-premise.picked.items c.loop-premise-test.true (c.requires c.loop-premise.premise-index 0 c.loop-premise-test.true) c.index-proofs-premise.is c.loop-premise.invariant))
