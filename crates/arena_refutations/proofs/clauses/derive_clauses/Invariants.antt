-- The clauses of the steps so far stand at their numbers.
use Rattle.arena_cells.specs.Standing.{Extends}
use Rattle.arena_refutations.proofs.Refuted.{AreBegun}
use Rattle.arena_refutations.proofs.clauses.derive_clauses.Given as goal

abbrev pub invariant-loop-number : goal.invariant-loop-number
invariant-loop-number l = record {
  grown : Extends l.fn.arena l.arena;
  begun : AreBegun l.arena l.clauses l.steps l.derived.items l.number;
}
