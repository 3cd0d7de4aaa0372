-- The laws are lemmas.
use Rattle.clause_laws.proofs.WellFormed.{unifier_formed, image_formed, resolvent_formed, normal_formed}
use Rattle.clause_laws.proofs.laws.well_formed_clauses.Goals as goal

pub returns-clause-unifier : goal.returns-clause-unifier
returns-clause-unifier c = unifier_formed

pub returns-clause-image : goal.returns-clause-image
returns-clause-image c = image_formed

pub returns-clause-resolvent : goal.returns-clause-resolvent
returns-clause-resolvent c = resolvent_formed

pub returns-clause-numbered : goal.returns-clause-numbered
returns-clause-numbered c = normal_formed
