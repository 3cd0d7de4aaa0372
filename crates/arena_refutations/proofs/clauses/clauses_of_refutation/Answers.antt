-- The last clause is empty or not.
use Rattle.std.proofs.Common.{Vec, Global, ℕ, arith}
use Rattle.std.proofs.lemmas.Result.{err_from_is_err_and}
use Rattle.arena_refutations.proofs.Refuted.{faulty_step, all_of, no_last, empty_last, other_last}
use Rattle.arena_refutations.proofs.clauses.clauses_of_refutation.Goals as goal

pub returns-in_err-derived-clause-value : goal.returns-in_err-derived-clause-value
returns-in_err-derived-clause-value c =
    let p = err_from_is_err_and c.from_residual.result c.from_residual.ensures.1 in
    rw (p.1, p.2) (faulty_step c.args.clauses.now c.args.steps.now (λ (ns : Vec ℕ Global). ns.items) c.derive_clauses.new.arena c.in_err-derived.field-0.0 c.in_err-derived.ensures.value)

pub returns-in_default-clause-value : goal.returns-in_default-clause-value
returns-in_default-clause-value c =
    let all = all_of c.args.clauses.now c.args.steps.now (λ (ns : Vec ℕ Global). ns.items) c.derive_clauses.new.arena c.in_ok-derived.derived c.in_ok-derived.ensures.value in
    rw c.not_empty.ensures (no_last c.args.clauses.now c.args.steps.now c.derive_clauses.new.arena c.in_ok-derived.derived.items all c.deref.result.now c.deref.ensures.value c.in_default.ensures.value)

pub returns-then-branch-clause-value : goal.returns-then-branch-clause-value
returns-then-branch-clause-value c =
    let all = all_of c.args.clauses.now c.args.steps.now (λ (ns : Vec ℕ Global). ns.items) c.derive_clauses.new.arena c.in_ok-derived.derived c.in_ok-derived.ensures.value in
    empty_last c.args.clauses.now c.args.steps.now c.derive_clauses.new.arena c.in_ok-derived.derived.items all c.deref.result.now c.deref.ensures.value c.in-Some.last.now c.in-Some.ensures.value _ c.in_ok-is_nothing.ensures.value
    c.if-branch.true c.is_nothing.new.arena c.is_nothing.ensures.grown

pub returns-else-branch-clause-value : goal.returns-else-branch-clause-value
returns-else-branch-clause-value c =
    let all = all_of c.args.clauses.now c.args.steps.now (λ (ns : Vec ℕ Global). ns.items) c.derive_clauses.new.arena c.in_ok-derived.derived c.in_ok-derived.ensures.value in
    rw c.not_empty-else-branch.ensures (
    other_last c.args.clauses.now c.args.steps.now c.derive_clauses.new.arena c.in_ok-derived.derived.items all c.deref.result.now c.deref.ensures.value c.in-Some.last.now c.in-Some.ensures.value _ c.in_ok-is_nothing.ensures.value
    c.if-branch.false _ (omega (arith, c.in_ok-derived.derived.ok.0)))
