-- The laws are lemmas.
use Rattle.cut_laws.proofs.BigSteps.{big_cut, big_other}
use Rattle.cut_laws.proofs.laws.big_steps.Goals as goal

pub returns-clause-cut : goal.returns-clause-cut
returns-clause-cut c = big_cut

pub returns-clause-other : goal.returns-clause-other
returns-clause-other c = big_other
