-- The law is a lemma.
use Rattle.introduction_laws.proofs.Shorter.{by_best}
use Rattle.introduction_laws.proofs.laws.costs.Goals as goal

pub returns : goal.returns
returns c width t u n valid formed is = by_best width t n u valid formed is
