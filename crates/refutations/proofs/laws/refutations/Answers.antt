-- The law is a lemma.
use Rattle.refutations.proofs.Refuting.{end_of_refutation}
use Rattle.refutations.proofs.laws.refutations.Goals as goal

pub returns : goal.returns
returns c = record { end = end_of_refutation }
