-- The laws are lemmas.
use Rattle.cut_laws.proofs.Kept.{result_free, result_end, result_valid}
use Rattle.cut_laws.proofs.laws.results.Goals as goal

pub returns-clause-cut_free : goal.returns-clause-cut_free
returns-clause-cut_free c = result_free

pub returns-clause-end : goal.returns-clause-end
returns-clause-end c = result_end

pub returns-clause-valid : goal.returns-clause-valid
returns-clause-valid c = result_valid
