-- The images so far are those of the formulas so far, and well formed.
use Rattle.std.proofs.Common.{◌≡◌, map, take}
use Rattle.std.specs.List.{All}
use Rattle.std.specs.FinMap as fin
use Rattle.fol.specs.Formed.{IsFormed}
use Rattle.substitution.specs.Image.{image}
use Rattle.lk_rules.proofs.formulas.Formulas.image.Given as goal

abbrev pub invariant-loop-formula : goal.invariant-loop-formula
invariant-loop-formula l = record {
  so_far : l.images.items ≡ map (image (fin.get l.map)) (take l.formula-index l.formula-items);
  formed : All IsFormed l.images.items;
}
