-- The clauses so far are closed.
use Rattle.std.proofs.Common.{◌≡◌, map, take}
use Rattle.std.specs.List.{All}
use Rattle.fol.specs.Formed.{IsFormed}
use Rattle.arena_cells.specs.Standing.{Extends, formula_at, IsFormulaAt}
use Rattle.refutations.specs.Clauses.{closure_of}
use Rattle.arena_refutations.proofs.closing.close_each.Given as goal

abbrev pub invariant-loop-clause : goal.invariant-loop-clause
invariant-loop-clause l = record {
  grown : Extends l.fn.arena l.arena;
  there : All (IsFormulaAt l.arena) l.numbers.items;
  closures : map (formula_at l.arena) l.numbers.items ≡ map closure_of (take l.clause-index l.clauses);
  formed : All (λ c. IsFormed (closure_of c)) (take l.clause-index l.clauses);
}
