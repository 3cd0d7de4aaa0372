-- One variable more has its place as its level.
use Rattle.std.proofs.Common.{cond, Some, sym, ◌∙◌, arith}
use Rattle.std.specs.Ordering.{eq_by_cmp}
use Rattle.fol.specs.Order.{var_cmp}
use Rattle.substitution.proofs.ClosingLaws.{level_more}
use Rattle.substitution.proofs.closing.levels_of.Goals as goal

pub loop-level-preserved : goal.loop-level-preserved
loop-level-preserved c v =
    c.in_ok-insert.ensures.updates.0 v
    ∙ ((λ i. cond (eq_by_cmp var_cmp (c.in_ok-copy.ensures i) v) (Some c.loop-level.level) (c.loop-level.invariant v i))
    ∙ sym (level_more c.args.vars.now c.loop-level.level c.index-vars-level.result v (omega arith) c.index-vars-level.is))
