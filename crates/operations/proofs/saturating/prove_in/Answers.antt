-- The problem that is given is the one whose clauses are refuted or saturated.
use Rattle.std.proofs.Common.{rules, ◌≡◌, true, sym, ◌∙◌, subst}
use Rattle.std.specs.List.{list_all}
use Rattle.tptp_problem.specs.declared.problems.Problem.{Problem}
use Rattle.tptp_problem.specs.ProblemClauses.{clauses_of}
use Rattle.operation_laws.specs.Given.{Found}
use Rattle.operation_laws.specs.Running.{has_closure, to_saturate}
use Rattle.operations.specs.Means.{ComesTo}
use Rattle.operations.proofs.Saturated.{closed_comes}
use Rattle.operations.proofs.saturating.prove_in.Goals as goal

pub returns : goal.returns
returns c = λ g.
    let r = c.saturate_clauses.result in
    let cs = c.deref-2.result.now in
    let closed : list_all has_closure cs ≡ true = search rules in
    subst (λ (f : Found Problem). ComesTo g r (to_saturate c.args.rounds f)) (sym c.in-Ok.ensures.found)
    (closed_comes g r cs (clauses_of c.in-Ok.problem.now.entries) c.args.rounds (c.deref-2.ensures.value ∙ c.in-Ok-clauses.ensures.value) closed (c.saturate_clauses.ensures g))
