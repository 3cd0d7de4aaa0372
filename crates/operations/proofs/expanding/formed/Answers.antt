-- The trees of both sides name what is well formed.
use Rattle.operations.proofs.StrongVars.{strongs_formed}
use Rattle.operations.proofs.expanding.formed.Goals as goal

pub returns : goal.returns
returns c = strongs_formed c.args.exps.now c.as_slice-left.ensures.arranged c.as_slice-right.ensures.arranged
