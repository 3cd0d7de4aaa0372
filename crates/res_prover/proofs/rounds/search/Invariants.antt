-- What is kept after the rounds so far.
use Rattle.res_prover.specs.Reached.{IsKeptAfter}
use Rattle.res_prover.proofs.rounds.search.Given as goal

abbrev pub invariant-loop : goal.invariant-loop
invariant-loop l = IsKeptAfter l.clauses l.counter l.kept.items
