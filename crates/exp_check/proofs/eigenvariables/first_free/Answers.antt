-- A variable is free, or the walk goes on.
use Rattle.std.proofs.Common.{sym, ◌∙◌}
use Rattle.exp_check.proofs.Repeats.{free_there, not_free_there}
use Rattle.exp_check.proofs.eigenvariables.first_free.Goals as goal

pub returns-then-has_free : goal.returns-then-has_free
returns-then-has_free c =
    sym (free_there c.args.sequent.now c.args.vars.now c.loop-var.var-index c.var-item.result c.has_free.result c.loop-var-test.true c.var-item.is c.has_free.ensures c.if-has_free.true)
    ∙ c.loop-var.invariant

pub loop-var-preserved : goal.loop-var-preserved
loop-var-preserved c =
    sym (not_free_there c.args.sequent.now c.args.vars.now c.loop-var.var-index c.var-item.result c.has_free.result c.loop-var-test.true c.var-item.is c.has_free.ensures c.if-has_free.false)
    ∙ c.loop-var.invariant
