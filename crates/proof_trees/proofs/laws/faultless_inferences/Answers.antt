-- The law is two lemmas.
use Rattle.proof_trees.proofs.Verdicts.{row_of_verdict, verdict_of_row}
use Rattle.proof_trees.proofs.laws.faultless_inferences.Goals as goal

pub returns : goal.returns
returns c r s n first second = (row_of_verdict r s n first second, verdict_of_row r s n first second)
