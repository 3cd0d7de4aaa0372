-- The laws are lemmas.
use Rattle.clause_laws.proofs.Saturations.{saturation, saturation_closed, saturation_not_empty, saturation_later}
use Rattle.clause_laws.proofs.laws.saturations.Goals as goal

pub returns-clause-closed : goal.returns-clause-closed
returns-clause-closed c = saturation_closed

pub returns-clause-not_empty : goal.returns-clause-not_empty
returns-clause-not_empty c = saturation_not_empty

pub returns-clause-kept : goal.returns-clause-kept
returns-clause-kept c = saturation

pub returns-clause-later : goal.returns-clause-later
returns-clause-later c = saturation_later
