-- The laws are lemmas.
use Rattle.proof_trees.proofs.Premises.{free_in_premises, free_in_premises_without_cut}
use Rattle.proof_trees.proofs.laws.free_in_premises.Goals as goal

pub returns-clause-any_rule : goal.returns-clause-any_rule
returns-clause-any_rule c v r s n first second formed row = free_in_premises r s n first second row v formed

pub returns-clause-without_cut : goal.returns-clause-without_cut
returns-clause-without_cut c v r s n first second formed row = free_in_premises_without_cut r s n first second row v formed
