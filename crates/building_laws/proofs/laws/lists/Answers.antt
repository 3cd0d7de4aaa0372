-- The laws are lemmas.
use Rattle.building_laws.proofs.Buildables.{first_buildable, first_conclusion, has_step, premises_buildable, is_built}
use Rattle.building_laws.proofs.laws.lists.Goals as goal

pub returns-clause-first : goal.returns-clause-first
returns-clause-first c x s h g = (first_buildable x s h g, first_conclusion x s h)

pub returns-clause-step : goal.returns-clause-step
returns-clause-step c = has_step

pub returns-clause-premises : goal.returns-clause-premises
returns-clause-premises c = premises_buildable

pub returns-clause-built : goal.returns-clause-built
returns-clause-built c = is_built
