-- The steps so far are planned.
use Rattle.std.proofs.Common.{◌≡◌, length}
use Rattle.arena_cells.specs.Standing.{Extends}
use Rattle.arena_refutations.specs.Planning.{ArePlanned}
use Rattle.arena_refutations.proofs.planning.plan.Given as goal

abbrev pub invariant-loop-place : goal.invariant-loop-place
invariant-loop-place l = record {
  grown : Extends l.fn.arena l.arena;
  many : length l.planned.items ≡ l.place;
  planned : ArePlanned l.arena l.clauses l.steps l.planned.items;
}
