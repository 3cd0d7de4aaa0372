-- The problem that is given is the one that is solved.
use Rattle.std.proofs.Common.{sym, subst}
use Rattle.tptp_problem.specs.declared.problems.Problem.{Problem}
use Rattle.operation_laws.specs.Given.{Found}
use Rattle.operation_laws.specs.Running.{to_solve}
use Rattle.operations.specs.Means.{ComesTo}
use Rattle.operations.proofs.satisfying.satisfy.Goals as goal

pub returns-in-Ok : goal.returns-in-Ok
returns-in-Ok c = λ g. subst (λ (f : Found Problem). ComesTo g c.solve_problem.result (to_solve f)) (sym c.in-Ok.ensures.found) (c.solve_problem.ensures g)
