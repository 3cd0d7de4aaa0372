-- What is kept after each round is reached, and tells how the rounds end.
use Rattle.std.proofs.Common.{◌≡◌, ◌+◌, suc, false, true, refl, sym, ap, subst, ◌∙◌, arith}
use Rattle.std.specs.Prelude.{Contains}
use Rattle.lk_rules.specs.Sequents.{empty}
use Rattle.clause_laws.specs.Rounds.{IsClosed, Level}
use Rattle.res_prover.specs.Kept.{kept_clauses}
use Rattle.res_prover.specs.Reached.{IsReached, IsReady, IsKeptAfter, IsRoundOf}
use Rattle.res_prover.proofs.RoundLaws.{start_reached, all_new, ready, saturated_by, empty_by, next_kept, empty_reached, open_by, empty_yet}
use Rattle.res_prover.proofs.rounds.search.Goals as goal

pub loop-init : goal.loop-init
loop-init c = record {
  reached = subst (IsReached c.args.clauses.now 0) (sym c.in_ok-kept.ensures.clauses) (start_reached c.args.clauses.now c.requires);
  resolved = all_new c.in_ok-kept.kept.items c.in_ok-kept.ensures.is_new;
}

pub round-requires : goal.round-requires
round-requires c = subst IsReady (sym c.as_slice-in-loop.ensures.value) (ready c.args.clauses.now c.loop.counter c.loop.kept.items c.loop.invariant)

pub returns-then-has_empty-clause-outcome : goal.returns-then-has_empty-clause-outcome
returns-then-has_empty-clause-outcome c =
    empty_reached c.args.clauses.now c.loop.counter (kept_clauses c.loop.kept.items) c.loop.invariant.reached c.args.rounds (omega arith)
    (subst (λ js. Contains (kept_clauses js) empty) c.as_slice.ensures.value (c.has_empty.ensures.yes c.if-has_empty.true))

pub returns-in-Covered-clause-outcome : goal.returns-in-Covered-clause-outcome
returns-in-Covered-clause-outcome c =
    let ks = c.loop.kept.items in
    let full = subst (λ js. Contains (kept_clauses js) empty → ⊥) c.as_slice.ensures.value (c.has_empty.ensures.no c.if-has_empty.false) in
    let of = subst (λ js. IsRoundOf js false c.in_ok-work.work) c.as_slice-in-loop.ensures.value c.in_ok-work.ensures in
    saturated_by c.args.clauses.now c.loop.counter ks c.loop.invariant false c.in_ok-work.work of c.args.rounds (omega arith) full c.in-Covered.is c.in_ok-ended-in-Covered.ended.items
    (c.in_ok-ended-in-Covered.ensures ∙ ap kept_clauses c.as_slice-in-Covered.ensures.value)

pub returns-in-Empty-clause-outcome : goal.returns-in-Empty-clause-outcome
returns-in-Empty-clause-outcome c =
    let of = subst (λ js. IsRoundOf js false c.in_ok-work.work) c.as_slice-in-loop.ensures.value c.in_ok-work.ensures in
    empty_by c.args.clauses.now c.loop.counter c.loop.kept.items c.loop.invariant false c.in_ok-work.work of c.args.rounds (omega arith) c.in-Empty.is

pub loop-preserved : goal.loop-preserved
loop-preserved c =
    let of = subst (λ js. IsRoundOf js false c.in_ok-work.work) c.as_slice-in-loop.ensures.value c.in_ok-work.ensures in
    let next : suc c.loop.counter ≡ c.loop.counter + 1 = omega arith in
    subst (λ n. IsKeptAfter c.args.clauses.now n c.in_ok-work.work.kept.items) next
    (next_kept c.args.clauses.now c.loop.counter c.loop.kept.items c.loop.invariant false c.in_ok-work.work of refl c.in-Open.is)

-- after the last round

pub round-requires-2 : goal.round-requires-2
round-requires-2 c = subst IsReady (sym c.as_slice-3.ensures.value) (ready c.args.clauses.now c.loop.counter c.loop.kept.items c.loop.invariant)

pub returns-then-has_empty-2-clause-outcome : goal.returns-then-has_empty-2-clause-outcome
returns-then-has_empty-2-clause-outcome c =
    empty_reached c.args.clauses.now c.loop.counter (kept_clauses c.loop.kept.items) c.loop.invariant.reached c.args.rounds (omega arith)
    (subst (λ js. Contains (kept_clauses js) empty) c.as_slice-2.ensures.value (c.has_empty-2.ensures.yes c.if-has_empty-2.true))

pub returns-in-Covered-stage-clause-outcome : goal.returns-in-Covered-stage-clause-outcome
returns-in-Covered-stage-clause-outcome c =
    let ks = c.loop.kept.items in
    let full = subst (λ js. Contains (kept_clauses js) empty → ⊥) c.as_slice-2.ensures.value (c.has_empty-2.ensures.no c.if-has_empty-2.false) in
    let of = subst (λ js. IsRoundOf js true c.in_ok-work-2.work) c.as_slice-3.ensures.value c.in_ok-work-2.ensures in
    saturated_by c.args.clauses.now c.loop.counter ks c.loop.invariant true c.in_ok-work-2.work of c.args.rounds (omega arith) full c.in-Covered-stage.is c.in_ok-ended-in-Covered-stage.ended.items
    (c.in_ok-ended-in-Covered-stage.ensures ∙ ap kept_clauses c.as_slice-in-Covered-stage.ensures.value)

pub returns-in-Open-stage-clause-rounds : goal.returns-in-Open-stage-clause-rounds
returns-in-Open-stage-clause-rounds c _ =
    let cs = c.args.clauses.now in
    let full = subst (λ js. Contains (kept_clauses js) empty → ⊥) c.as_slice-2.ensures.value (c.has_empty-2.ensures.no c.if-has_empty-2.false) in
    let of = subst (λ js. IsRoundOf js true c.in_ok-work-2.work) c.as_slice-3.ensures.value c.in_ok-work-2.ensures in
    let all : c.loop.counter ≡ c.args.rounds = omega arith in
    subst (λ n. (Level cs n empty → ⊥) × (IsClosed (Level cs n) → ⊥)) all (open_by cs c.loop.counter c.loop.kept.items c.loop.invariant true c.in_ok-work-2.work of full c.in-Open-stage.is)

pub returns-clause-rounds : goal.returns-clause-rounds
returns-clause-rounds c _ =
    let cs = c.args.clauses.now in
    let full = subst (λ js. Contains (kept_clauses js) empty → ⊥) c.as_slice-2.ensures.value (c.has_empty-2.ensures.no c.if-has_empty-2.false) in
    let of = subst (λ js. IsRoundOf js true c.in_ok-work-2.work) c.as_slice-3.ensures.value c.in_ok-work-2.ensures in
    let all : c.loop.counter ≡ c.args.rounds = omega arith in
    subst (λ n. (Level cs n empty → ⊥) × (IsClosed (Level cs n) → ⊥)) all (empty_yet cs c.loop.counter c.loop.kept.items c.loop.invariant true c.in_ok-work-2.work of full c.in-Empty-stage.is)
