-- The images so far stand at their numbers, and the rest is as it was.
use Rattle.std.proofs.Common.{◌≡◌, map, take, drop, length}
use Rattle.std.specs.FinMap as fin
use Rattle.std.specs.List.{All}
use Rattle.substitution.specs.Image.{image}
use Rattle.arena_cells.specs.Standing.{Extends, formula_at, map_at, IsFormulaAt}
use Rattle.arena.proofs.arena.Arena.image_each.Given as goal

abbrev pub invariant-loop-place : goal.invariant-loop-place
invariant-loop-place l = record {
  grown : Extends l.fn.self l.self;
  there : All (IsFormulaAt l.self) (take l.place l.images.items);
  images : map (formula_at l.self) (take l.place l.images.items) ≡ map (image (fin.get (map_at l.fn.self l.map))) (map (formula_at l.fn.self) (take l.place l.fn.numbers.items));
  rest : drop l.place l.images.items ≡ drop l.place l.fn.numbers.items;
  length : length l.images.items ≡ length l.fn.numbers.items;
}
