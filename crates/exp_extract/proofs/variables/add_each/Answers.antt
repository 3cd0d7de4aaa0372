-- One more is added, or none.
use Rattle.std.proofs.Common.{take, ◌∙◌}
use Rattle.exp_extract.proofs.Gathered.{grown, next_var}
use Rattle.exp_extract.proofs.variables.add_each.Goals as goal

pub returns-in_err-copy-clause-kept : goal.returns-in_err-copy-clause-kept
returns-in_err-copy-clause-kept c = grown c.args.known.now c.loop-var.known (take c.loop-var.var-index c.args.vars.now) c.loop-var.invariant

pub returns-in_err-add-clause-kept : goal.returns-in_err-add-clause-kept
returns-in_err-add-clause-kept c = grown c.args.known.now c.add.new.self (take c.loop-var.var-index c.args.vars.now) (c.in_err-add.ensures.err ∙ c.loop-var.invariant)

pub returns-clause-kept : goal.returns-clause-kept
returns-clause-kept c = grown c.args.known.now c.loop-var.known (take c.loop-var.var-index c.args.vars.now) c.loop-var.invariant

pub loop-var-preserved : goal.loop-var-preserved
loop-var-preserved c =
    next_var c.args.vars.now c.loop-var.var-index c.var-item.result c.in_ok-copy.field-0 c.args.known.now c.loop-var.known c.add.new.self c.loop-var-test.true c.var-item.is c.in_ok-copy.ensures c.loop-var.invariant c.in_ok-add.ensures.ok
