-- What the step at the place derives tells which steps it is from, and that they are before it.
use Rattle.std.proofs.Common.{arith}
use Rattle.arena_cells.proofs.Reading.{if_ok}
use Rattle.image_laws.proofs.StepLaws.{rigid_derived}
use Rattle.arena_refutations.proofs.PlanLaws.{input_planned, image_planned, resolvent_planned, reached_now, clause_there, planned_now, covered, if_both}
use Rattle.arena_refutations.proofs.planning.plan_step.Goals as goal

pub sequent_vars-requires : goal.sequent_vars-requires
sequent_vars-requires c =
    clause_there c.requires.derived c.args.place c.requires.place c.index-steps-place.is c.in-Input.is c.args.arena.now c.args.clause c.requires.clause

pub returns-in_ok-set-in-Input-clause-planned : goal.returns-in_ok-set-in-Input-clause-planned
returns-in_ok-set-in-Input-clause-planned c =
    planned_now c.requires.derived c.args.place c.requires.place c.index-steps-place.is c.in-Input.is c.sequent_vars.new.self _
    (λ d at from.
    input_planned c.args.arena.now c.sequent_vars.new.self c.sequent_vars.ensures.grown c.args.clauses.now c.requires.clauses d c.args.clause (c.requires.clause d at) _ (λ i. c.args.clause)
    c.in-Input.field-0 from c.in_ok-set-in-Input.ensures.set)

pub set_of-source-requires : goal.set_of-source-requires
set_of-source-requires c =
    let now = reached_now c.requires.derived c.args.place c.requires.place c.index-steps-place.is c.in-Subst.is in
    omega (arith, now.from.before, c.requires.before)

pub plan_image-requires : goal.plan_image-requires
plan_image-requires c =
    let now = reached_now c.requires.derived c.args.place c.requires.place c.index-steps-place.is c.in-Subst.is in
    record { source = (covered c.requires.planned c.requires.place c.requires.before _ _ now.from.before now.from.at _ c.set_of-source.ensures).there }

pub returns-in-Subst-clause-planned : goal.returns-in-Subst-clause-planned
returns-in-Subst-clause-planned c =
    let r = c.plan_image.result in
    let h = c.plan_image.ensures in
    if_ok r _ _
    (λ p f.
    planned_now c.requires.derived c.args.place c.requires.place c.index-steps-place.is c.in-Subst.is c.plan_image.new.arena p
    (λ d at from.
    image_planned c.args.arena.now c.plan_image.new.arena h.grown c.args.clauses.now c.requires.clauses d c.args.clause (c.requires.clause d at) p f.0 _ _ _ _ from
    (rigid_derived c.args.clauses.now c.args.steps.now c.requires.formed c.requires.derived _ _ from.at) c.set_of-source.result
    (covered c.requires.planned c.requires.place c.requires.before _ _ from.before from.at _ c.set_of-source.ensures)
    f.1.0 f.1.1.0 f.1.1.1))
    (if_both r _ _ h.clause (if_both r _ _ h.set (if_both r _ _ h.has h.named)))

pub set_of-requires : goal.set_of-requires
set_of-requires c =
    let now = reached_now c.requires.derived c.args.place c.requires.place c.index-steps-place.is c.in-Resolve.is in
    omega (arith, now.from.first_before, c.requires.before)

pub set_of-requires-in-Resolve : goal.set_of-requires-in-Resolve
set_of-requires-in-Resolve c =
    let now = reached_now c.requires.derived c.args.place c.requires.place c.index-steps-place.is c.in-Resolve.is in
    omega (arith, now.from.second_before, c.requires.before)

pub plan_resolvent-requires-clause-first : goal.plan_resolvent-requires-clause-first
plan_resolvent-requires-clause-first c =
    let now = reached_now c.requires.derived c.args.place c.requires.place c.index-steps-place.is c.in-Resolve.is in
    (covered c.requires.planned c.requires.place c.requires.before _ _ now.from.first_before now.from.first_at _ c.set_of.ensures).there

pub plan_resolvent-requires-clause-second : goal.plan_resolvent-requires-clause-second
plan_resolvent-requires-clause-second c =
    let now = reached_now c.requires.derived c.args.place c.requires.place c.index-steps-place.is c.in-Resolve.is in
    (covered c.requires.planned c.requires.place c.requires.before _ _ now.from.second_before now.from.second_at _ c.set_of-in-Resolve.ensures).there

pub plan_resolvent-requires-clause-clause : goal.plan_resolvent-requires-clause-clause
plan_resolvent-requires-clause-clause c =
    clause_there c.requires.derived c.args.place c.requires.place c.index-steps-place.is c.in-Resolve.is c.args.arena.now c.args.clause c.requires.clause

pub returns-in-Resolve-clause-planned : goal.returns-in-Resolve-clause-planned
returns-in-Resolve-clause-planned c =
    let r = c.plan_resolvent.result in
    let h = c.plan_resolvent.ensures in
    if_ok r _ _
    (λ p f.
    planned_now c.requires.derived c.args.place c.requires.place c.index-steps-place.is c.in-Resolve.is c.plan_resolvent.new.arena p
    (λ d at from.
    resolvent_planned c.args.arena.now c.plan_resolvent.new.arena h.grown c.args.clauses.now c.requires.clauses d c.args.clause (c.requires.clause d at) p f.0 _ _ _ _ _ from c.set_of.result c.set_of-in-Resolve.result
    (covered c.requires.planned c.requires.place c.requires.before _ _ from.first_before from.first_at _ c.set_of.ensures)
    (covered c.requires.planned c.requires.place c.requires.before _ _ from.second_before from.second_at _ c.set_of-in-Resolve.ensures)
    f.1.0 f.1.1))
    (if_both r _ _ h.clause (if_both r _ _ h.set h.named))
