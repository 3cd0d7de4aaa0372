-- The steps refute the clauses of the problem, and so the refutation stands for its proof.
use Rattle.std.proofs.Common.{List, sym, ap, ◌∙◌, subst}
use Rattle.std.specs.List.{All}
use Rattle.refutations.specs.declared.step.ResStep.{ResStep}
use Rattle.ground_laws.specs.Steps.{sequents_of}
use Rattle.res_prover.specs.Answers.{IsRefuted}
use Rattle.tptp_problem.specs.declared.problems.Problem.{Problem}
use Rattle.tptp_problem.specs.ProblemClauses.{clauses_of, IsReadProblem}
use Rattle.reply_lines.specs.Shown.{IsShownStep}
use Rattle.operations.proofs.Saturated.{have_formed_parts, derivation_comes}
use Rattle.operations.proofs.saturating.hold_steps.Goals as goal

pub from_vec-requires : goal.from_vec-requires
from_vec-requires c =
    have_formed_parts c.args.steps.items (subst (λ (l : List ResStep). All IsShownStep l) c.deref.ensures.value (c.are_shown_steps.ensures c.if-not-are_shown_steps.false))

pub returns-in-Ok-copy : goal.returns-in-Ok-copy
returns-in-Ok-copy c = λ g n refuted.
    let same = sym c.in-Ok-copy.ensures in
    let list = sym c.in-Ok.ensures in
    derivation_comes g c.args.clauses.now n (record { problem = c.in-Ok-copy.problem; steps = c.in-Ok.steps }) c.requires.known c.requires.closed
    (subst (λ (l : List ResStep). IsRefuted (sequents_of c.args.clauses.now) n l) list refuted)
    (subst IsReadProblem same c.requires.problem) (c.requires.clauses ∙ ap (λ (p : Problem). clauses_of p.entries) same)
    (subst (λ (l : List ResStep). All IsShownStep l) (c.deref.ensures.value ∙ list) (c.are_shown_steps.ensures c.if-not-are_shown_steps.false))
