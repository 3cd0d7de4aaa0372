-- At first nothing is listed, and at last nothing is left.
use Rattle.res_prover.proofs.Firsts.{none_first}
use Rattle.res_prover.proofs.normal.first_of.Goals as goal

pub loop-place-init : goal.loop-place-init
loop-place-init c = rw c.new-firsts.ensures.items (none_first c.args.all.now)
