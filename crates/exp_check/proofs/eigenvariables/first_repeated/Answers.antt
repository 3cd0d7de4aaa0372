-- At the end there is no pair left.
use Rattle.std.proofs.Common.{◌-◌, sym, ◌∙◌, arith}
use Rattle.exp_check.proofs.Repeats.{pair_end}
use Rattle.exp_check.proofs.eigenvariables.first_repeated.Goals as goal

pub returns : goal.returns
returns c = sym (pair_end c.args.vars.now (c.loop-place.place - 1) (omega (arith, c.loop-place-test.false, c.loop-place.invariant.0))) ∙ c.loop-place.invariant.1
