-- The laws are lemmas.
use Rattle.herbrand_laws.proofs.Least.{best_none, best_least, candidates_total, candidates_tie, least_same}
use Rattle.herbrand_laws.specs.Candidates.{candidate_cmp}
use Rattle.herbrand_laws.proofs.Covered.{covered_among}
use Rattle.herbrand_laws.proofs.laws.candidates.Goals as goal

pub returns-clause-none : goal.returns-clause-none
returns-clause-none c = best_none

pub returns-clause-occurs : goal.returns-clause-occurs
returns-clause-occurs c width items w e = (best_least width items w e).0

pub returns-clause-none_below : goal.returns-clause-none_below
returns-clause-none_below c width items w e = (best_least width items w e).1

pub returns-clause-any_order : goal.returns-clause-any_order
returns-clause-any_order c width items vs ws there back = least_same (candidate_cmp width items) (candidates_total width items) (candidates_tie width items) vs ws there back

pub returns-clause-covered : goal.returns-clause-covered
returns-clause-covered c width i w us formed e = covered_among width i formed w us e
