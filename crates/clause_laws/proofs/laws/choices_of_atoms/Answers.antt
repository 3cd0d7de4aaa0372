-- The laws are lemmas.
use Rattle.clause_laws.proofs.Sublists.{choices-sublists, sublists-grown}
use Rattle.clause_laws.proofs.laws.choices_of_atoms.Goals as goal

pub returns-clause-not_empty : goal.returns-clause-not_empty
returns-clause-not_empty c = choices-sublists

pub returns-clause-one_more : goal.returns-clause-one_more
returns-clause-one_more c = sublists-grown
