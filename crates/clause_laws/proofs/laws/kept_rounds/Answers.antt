-- The laws are lemmas.
use Rattle.clause_laws.proofs.KeptRounds.{rounds_cover, rounds_reached, rounds_reduced, rounds_normal}
use Rattle.clause_laws.proofs.Saturations.{kept_closed, kept_empty}
use Rattle.clause_laws.proofs.laws.kept_rounds.Goals as goal

pub returns-clause-covers : goal.returns-clause-covers
returns-clause-covers c = rounds_cover

pub returns-clause-reached : goal.returns-clause-reached
returns-clause-reached c = rounds_reached

pub returns-clause-reduced : goal.returns-clause-reduced
returns-clause-reduced c = rounds_reduced

pub returns-clause-numbered : goal.returns-clause-numbered
returns-clause-numbered c = rounds_normal

pub returns-clause-closed : goal.returns-clause-closed
returns-clause-closed c = kept_closed

pub returns-clause-of_empty : goal.returns-clause-of_empty
returns-clause-of_empty c = kept_empty
