-- The laws are lemmas.
use Rattle.free_variables.proofs.OccurrenceLaws.{has-vars_formula, has-vars_term, has-preds_formula}
use Rattle.free_variables.proofs.laws.collected_members.Goals as goal

pub returns-clause-formula : goal.returns-clause-formula
returns-clause-formula c = has-vars_formula

pub returns-clause-term : goal.returns-clause-term
returns-clause-term c = has-vars_term

pub returns-clause-preds : goal.returns-clause-preds
returns-clause-preds c = has-preds_formula
