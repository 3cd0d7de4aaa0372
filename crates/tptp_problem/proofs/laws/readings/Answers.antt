-- The laws are lemmas.
use Rattle.std.proofs.Common.{Ok, Err}
use Rattle.tptp_problem.proofs.ProblemLaws.{exact_problem}
use Rattle.tptp_problem.proofs.laws.readings.Goals as goal

pub returns-clause-problem : goal.returns-clause-problem
returns-clause-problem c text p = exact_problem text (Ok p)

pub returns-clause-fault : goal.returns-clause-fault
returns-clause-fault c text at kind = exact_problem text (Err (at, kind))
