-- The steps refute the clauses of the problem, and so the refutation stands for its proof.
use Rattle.std.proofs.Common.{sym, ap, ◌∙◌, subst}
use Rattle.tptp_problem.specs.declared.problems.Problem.{Problem}
use Rattle.tptp_problem.specs.ProblemClauses.{clauses_of, IsReadProblem}
use Rattle.operations.proofs.Satisfied.{refutation_comes}
use Rattle.operations.proofs.satisfying.hold_steps.Goals as goal

pub returns-in-Ok-copy : goal.returns-in-Ok-copy
returns-in-Ok-copy c = λ g.
    let same = sym c.in-Ok-copy.ensures in
    refutation_comes g c.args.clauses.now c.args.steps.now (record { problem = c.in-Ok-copy.problem; steps = c.in-Ok.steps }) c.requires.known c.requires.closed c.requires.refutes
    (subst IsReadProblem same c.requires.problem) (c.requires.clauses ∙ ap (λ (p : Problem). clauses_of p.entries) same) c.in-Ok.ensures.steps c.in-Ok.ensures.shown
