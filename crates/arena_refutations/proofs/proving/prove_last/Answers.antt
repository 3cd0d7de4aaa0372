-- What was known of the clauses stays.
use Rattle.arena_refutations.proofs.Closings.{closed_stays}
use Rattle.arena_refutations.proofs.Refuted.{refuted_stays}
use Rattle.arena_refutations.proofs.proving.prove_last.Goals as goal

pub plan-requires-clause-found : goal.plan-requires-clause-found
plan-requires-clause-found c = refuted_stays c.args.clauses.now c.args.steps.now c.args.arena.now c.args.found.now c.requires.found c.close_clauses.new.arena c.close_clauses.ensures.grown

pub prove_whole-requires-clause-closed : goal.prove_whole-requires-clause-closed
prove_whole-requires-clause-closed c = closed_stays c.close_clauses.new.arena c.plan.new.arena c.args.clauses.now c.in_ok-closed.closed c.plan.ensures.grown c.in_ok-closed.ensures.closed

pub prove_whole-requires-clause-found : goal.prove_whole-requires-clause-found
prove_whole-requires-clause-found c =
    refuted_stays c.args.clauses.now c.args.steps.now c.args.arena.now c.args.found.now c.requires.found c.plan.new.arena (λ n x h. c.plan.ensures.grown n x (c.close_clauses.ensures.grown n x h))
