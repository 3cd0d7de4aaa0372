-- The laws are lemmas.
use Rattle.herbrand_laws.proofs.RowForms.{no_values, by_values, with_variable}
use Rattle.herbrand_laws.proofs.laws.patterns_of_terms.Goals as goal

pub returns-clause-equal : goal.returns-clause-equal
returns-clause-equal c t ts v f e = no_values t ts f e v

pub returns-clause-by_values : goal.returns-clause-by_values
returns-clause-by_values c t ts vs f e = by_values t ts f vs e

pub returns-clause-variable : goal.returns-clause-variable
returns-clause-variable c = with_variable
