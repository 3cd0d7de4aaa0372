-- The law is a lemma.
use Rattle.introduction_laws.proofs.Shorter.{with_cut}
use Rattle.introduction_laws.proofs.laws.introductions.Goals as goal

pub returns : goal.returns
returns c width t u n valid formed is = with_cut width t n u valid formed is
