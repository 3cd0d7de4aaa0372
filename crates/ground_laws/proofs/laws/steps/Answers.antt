-- The laws are lemmas.
use Rattle.ground_laws.proofs.Decided.{fewer}
use Rattle.ground_laws.proofs.Unrolled.{decide-search, search-unrolled}
use Rattle.ground_laws.proofs.laws.steps.Goals as goal

pub returns-clause-start : goal.returns-clause-start
returns-clause-start c = decide-search

pub returns-clause-turn : goal.returns-clause-turn
returns-clause-turn c = search-unrolled

pub returns-clause-falls : goal.returns-clause-falls
returns-clause-falls c = fewer
