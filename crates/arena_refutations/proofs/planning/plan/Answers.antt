-- One step more is planned.
use Rattle.std.proofs.Common.{List, [], ◌∷◌, length, length-append, sym, ap, subst, arith}
use Rattle.arena_refutations.specs.declared.planning.Planned.{Planned}
use Rattle.arena_refutations.specs.Planning.{ArePlanned}
use Rattle.arena_refutations.proofs.PlanLaws.{planned_more, clause_of}
use Rattle.arena_refutations.proofs.planning.plan.Goals as goal

pub plan_step-requires-clause-clause : goal.plan_step-requires-clause-clause
plan_step-requires-clause-clause c =
    clause_of c.args.arena.now c.loop-place.arena c.loop-place.invariant.grown c.args.clauses.now c.args.steps.now c.args.found.now c.requires.found c.loop-place.place c.loop-place-test.true

pub loop-place-preserved : goal.loop-place-preserved
loop-place-preserved c =
    let b = c.plan_step.new.arena in
    let h = c.loop-place.invariant in
    let ps = c.loop-place.planned.items in
    let p = c.in_ok-step.step in
    let pushed = c.in_ok-push.ensures.items in
    record {
      grown = λ n t s. c.plan_step.ensures.grown n t (h.grown n t s);
      many = omega (arith, ap length pushed, length-append ps (p ∷ []), h.many);
      planned =
          subst (λ (qs : List Planned). ArePlanned b c.args.clauses.now c.args.steps.now qs) (sym pushed)
          (planned_more c.loop-place.arena b c.plan_step.ensures.grown c.args.clauses.now c.args.steps.now ps c.loop-place.place p h.many h.planned c.in_ok-step.ensures.planned);
    }
