-- The laws are lemmas.
use Rattle.search_laws.proofs.Found.{found, formed_sequent}
use Rattle.search_laws.proofs.laws.proofs.Goals as goal

pub returns-clause-valid : goal.returns-clause-valid
returns-clause-valid c s t left right e = (found s t e).valid (formed_sequent s left right)

pub returns-clause-cut_free : goal.returns-clause-cut_free
returns-clause-cut_free c s t e = (found s t e).without_cuts

pub returns-clause-end : goal.returns-clause-end
returns-clause-end c s t e = (found s t e).end
