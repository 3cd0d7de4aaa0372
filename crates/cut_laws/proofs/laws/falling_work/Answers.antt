-- The laws are lemmas.
use Rattle.cut_laws.proofs.Falling.{work_left, work_right, work_root, work_other, work_first, work_rest}
use Rattle.cut_laws.proofs.laws.falling_work.Goals as goal

pub returns-clause-left : goal.returns-clause-left
returns-clause-left c = work_left

pub returns-clause-right : goal.returns-clause-right
returns-clause-right c = work_right

pub returns-clause-root : goal.returns-clause-root
returns-clause-root c = work_root

pub returns-clause-other : goal.returns-clause-other
returns-clause-other c = work_other

pub returns-clause-first : goal.returns-clause-first
returns-clause-first c = work_first

pub returns-clause-rest : goal.returns-clause-rest
returns-clause-rest c = work_rest
