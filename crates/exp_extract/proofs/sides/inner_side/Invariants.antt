-- The numbers so far.
use Rattle.std.proofs.Common.{◌≡◌, ◌≤◌, length, map, take, vec_capacity, Some}
use Rattle.exp_extract.specs.Sides.{inner_number}
use Rattle.exp_extract.proofs.sides.inner_side.Given as goal

abbrev pub invariant-loop-formula : goal.invariant-loop-formula
invariant-loop-formula l = record {
  numbers : map Some l.list.items ≡ map (inner_number l.conclusion l.numbers l.auxiliary l.premise l.side) (take l.formula-index l.formulas);
  near : l.near ≤ length l.conclusion;
  room : length l.formulas ≤ vec_capacity l.list;
}
