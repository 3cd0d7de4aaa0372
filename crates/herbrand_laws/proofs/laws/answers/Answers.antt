-- The laws are lemmas.
use Rattle.herbrand_laws.proofs.NewProof.{unchanged_without, unchanged_costly, changed}
use Rattle.herbrand_laws.proofs.laws.answers.Goals as goal

pub returns-clause-no_candidate : goal.returns-clause-no_candidate
returns-clause-no_candidate c = unchanged_without

pub returns-clause-not_cheaper : goal.returns-clause-not_cheaper
returns-clause-not_cheaper c = unchanged_costly

pub returns-clause-shorter : goal.returns-clause-shorter
returns-clause-shorter c width t x s w h end e less = changed x s h width t end w e less
