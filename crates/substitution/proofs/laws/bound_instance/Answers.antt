-- The law is a lemma.
use Rattle.substitution.proofs.BindLaws.{bind-inst_at}
use Rattle.substitution.proofs.laws.bound_instance.Goals as goal

pub returns : goal.returns
returns c = bind-inst_at
