use Rattle.std.proofs.Common.{◌≡◌, map, take}
use Rattle.std.specs.List.{All}
use Rattle.fol.specs.Formed.{IsFormed}
use Rattle.expansion_laws.specs.Expansions.{deep}
use Rattle.exp_tree.proofs.sequent_formulas.deep_side.Given as goal

abbrev pub invariant-loop-tree : goal.invariant-loop-tree
invariant-loop-tree l = (l.formulas.items ≡ map (deep l.side) (take l.tree-index l.trees)) × All IsFormed l.formulas.items
