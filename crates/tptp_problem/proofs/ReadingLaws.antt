-- A problem that is read.
use Rattle.std.proofs.Common.{◌≡◌, ℕ, List, Ok}
use Rattle.tptp_problem.specs.declared.problems.Problem.{Problem}
use Rattle.tptp_problem.specs.ProblemClauses.{IsReadProblem}
use Rattle.tptp_problem.specs.Reading.{problem_reading}
use Rattle.tptp_problem.proofs.ProblemLaws.{exact_problem, is_read}

pub problem_read : (text : List ℕ) (p : Problem) → problem_reading text ≡ Ok p → IsReadProblem p
problem_read text p is = is_read text p ((exact_problem text (Ok p)).0 is)
