-- The next number is at most the list's length.
use Rattle.std.proofs.Common.{◌+◌, ◌≤◌, ◌<◌, length, arith, sym, ◌∙◌}
use Rattle.free_variables.proofs.FreshVariables.{next_fits}
use Rattle.free_variables.proofs.fresh_variables.past_run.Goals as goal

pub overflow_add-next : goal.overflow_add-next
overflow_add-next c =
    let below : c.loop-var.var-index < length c.args.vars.now = omega arith in
    let fits : c.loop-var.next + 1 ≤ length c.args.vars.now =
    next_fits c.args.vars.now c.loop-var.next c.loop-var.var-index c.var-item.result c.loop-var.invariant.below below c.var-item.is (sym c.is_number.ensures ∙ c.if-is_number.true) in
    omega arith
