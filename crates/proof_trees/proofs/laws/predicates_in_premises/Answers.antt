-- The laws are lemmas.
use Rattle.proof_trees.proofs.Premises.{preds_in_premises, preds_in_premises_without_cut, bodies_in_premises_without_cut, unfolded_in_conclusion}
use Rattle.proof_trees.proofs.laws.predicates_in_premises.Goals as goal

pub returns-clause-any_rule : goal.returns-clause-any_rule
returns-clause-any_rule c q r s n first second plain row = preds_in_premises r s n first second row q plain

pub returns-clause-without_cut : goal.returns-clause-without_cut
returns-clause-without_cut c q r s n first second plain row none = preds_in_premises_without_cut r s n first second row q none plain

pub returns-clause-bodies : goal.returns-clause-bodies
returns-clause-bodies c = bodies_in_premises_without_cut

pub returns-clause-unfolded : goal.returns-clause-unfolded
returns-clause-unfolded c = unfolded_in_conclusion
