-- The laws are lemmas.
use Rattle.clause_laws.proofs.Saturations.{closed-level, empty-level, level_covers_later, level_still_closed}
use Rattle.clause_laws.proofs.laws.closed_sets.Goals as goal

pub returns-clause-closed : goal.returns-clause-closed
returns-clause-closed c = closed-level

pub returns-clause-of_empty : goal.returns-clause-of_empty
returns-clause-of_empty c = empty-level

pub returns-clause-no_more : goal.returns-clause-no_more
returns-clause-no_more c = level_covers_later

pub returns-clause-still_closed : goal.returns-clause-still_closed
returns-clause-still_closed c = level_still_closed
