-- A number that no walk passes is the least.
use Rattle.std.proofs.Common.{◌≡◌, arith}
use Rattle.fol.specs.declared.symbols.Var.TheVariants.{Num}
use Rattle.free_variables.specs.Fresh.{least_outside}
use Rattle.free_variables.proofs.FreshVariables.{below_fits, least_is, least_outside_is}
use Rattle.free_variables.proofs.fresh_variables.fresh.Goals as goal

pub returns-then-next-number-clause-value : goal.returns-then-next-number-clause-value
returns-then-next-number-clause-value c = least_is c.args.vars.now c.loop-number.number c.loop-number.invariant (c.past_run-next.ensures.outside c.if-next-number.true)

pub returns-then-next-number-clause-least : goal.returns-then-next-number-clause-least
returns-then-next-number-clause-least c =
    let least : Num c.loop-number.number ≡ least_outside c.args.vars.now =
    least_is c.args.vars.now c.loop-number.number c.loop-number.invariant (c.past_run-next.ensures.outside c.if-next-number.true) in
    rw least (least_outside_is c.args.vars.now)

pub loop-number-smaller : goal.loop-number-smaller
loop-number-smaller c = omega (arith, below_fits c.args.vars.now c.past_run-next.result c.past_run-next.ensures.below)
