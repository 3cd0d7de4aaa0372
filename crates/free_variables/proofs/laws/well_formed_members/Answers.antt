-- The laws are lemmas.
use Rattle.free_variables.proofs.FormedMembers.{formed_var_of, formed_var_of_term, formed_pred_of}
use Rattle.free_variables.proofs.laws.well_formed_members.Goals as goal

pub returns-clause-formula : goal.returns-clause-formula
returns-clause-formula c = formed_var_of

pub returns-clause-term : goal.returns-clause-term
returns-clause-term c = formed_var_of_term

pub returns-clause-pred : goal.returns-clause-pred
returns-clause-pred c = formed_pred_of
