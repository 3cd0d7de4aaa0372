-- The laws are lemmas.
use Rattle.herbrand_laws.proofs.RowMembers.{rows_are, candidates_are, patterns_are}
use Rattle.herbrand_laws.proofs.laws.members.Goals as goal

pub returns-clause-rows : goal.returns-clause-rows
returns-clause-rows c = rows_are

pub returns-clause-candidates : goal.returns-clause-candidates
returns-clause-candidates c = candidates_are

pub returns-clause-patterns : goal.returns-clause-patterns
returns-clause-patterns c = patterns_are
