-- The laws are lemmas.
use Rattle.building_laws.proofs.Cases.{leaf_built, one_built, two_built, not_built}
use Rattle.building_laws.proofs.Unrolled.{build-unrolled, built_within}
use Rattle.building_laws.proofs.laws.steps.Goals as goal

pub returns-clause-step : goal.returns-clause-step
returns-clause-step c = build-unrolled

pub returns-clause-leaf : goal.returns-clause-leaf
returns-clause-leaf c = leaf_built

pub returns-clause-one_premise : goal.returns-clause-one_premise
returns-clause-one_premise c = one_built

pub returns-clause-two_premises : goal.returns-clause-two_premises
returns-clause-two_premises c = two_built

pub returns-clause-no_step : goal.returns-clause-no_step
returns-clause-no_step c = not_built

pub returns-clause-any_bound : goal.returns-clause-any_bound
returns-clause-any_bound c = built_within
