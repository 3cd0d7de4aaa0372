-- The laws are lemmas.
use Rattle.building_laws.proofs.Cases.{step_closes, step_parts, step_instance, first_of, none_of, lighter}
use Rattle.building_laws.proofs.laws.taken.Goals as goal

pub returns-clause-closes : goal.returns-clause-closes
returns-clause-closes c = step_closes

pub returns-clause-part : goal.returns-clause-part
returns-clause-part c = step_parts

pub returns-clause-instance : goal.returns-clause-instance
returns-clause-instance c = step_instance

pub returns-clause-first : goal.returns-clause-first
returns-clause-first c = first_of

pub returns-clause-none : goal.returns-clause-none
returns-clause-none c = none_of

pub returns-clause-falls : goal.returns-clause-falls
returns-clause-falls c = lighter
