-- The variables of the formulas so far.
use Rattle.std.proofs.Common.{map, take}
use Rattle.finite.specs.Finite as set
use Rattle.lk_rules.specs.Formulas.{var_lists}
use Rattle.arena_cells.specs.Standing.{Extends, HasVariables, formula_at}
use Rattle.arena.proofs.arena.Arena.vars_of_each.Given as goal

abbrev pub invariant-loop-number : goal.invariant-loop-number
invariant-loop-number l = record {
  grown : Extends l.fn.self l.self;
  variables : HasVariables l.self l.vars (set.of_list (var_lists (map (formula_at l.fn.self) (take l.number-index l.numbers))));
}
