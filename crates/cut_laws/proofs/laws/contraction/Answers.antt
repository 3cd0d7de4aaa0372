-- The laws are lemmas.
use Rattle.cut_laws.proofs.Contracted.{con_valid, end_con}
use Rattle.cut_laws.proofs.laws.contraction.Goals as goal

pub returns-clause-valid : goal.returns-clause-valid
returns-clause-valid c = con_valid

pub returns-clause-end : goal.returns-clause-end
returns-clause-end c = end_con
