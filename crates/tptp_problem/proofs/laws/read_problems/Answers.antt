-- The law is a lemma.
use Rattle.tptp_problem.proofs.ReadingLaws.{problem_read}
use Rattle.tptp_problem.proofs.laws.read_problems.Goals as goal

pub returns : goal.returns
returns c = problem_read
