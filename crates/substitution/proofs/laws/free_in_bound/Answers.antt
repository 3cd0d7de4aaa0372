-- The law is a lemma.
use Rattle.substitution.proofs.FreeLaws.{free-bind_at}
use Rattle.substitution.proofs.laws.free_in_bound.Goals as goal

pub returns : goal.returns
returns c = free-bind_at
