use Rattle.std.proofs.Common.{◌≡◌, map, take}
use Rattle.std.specs.List.{All}
use Rattle.fol.specs.Formed.{IsFormed}
use Rattle.expansion_laws.specs.Expansions.{shallow}
use Rattle.exp_tree.proofs.sequent_formulas.formulas.Given as goal

abbrev pub invariant-loop-tree : goal.invariant-loop-tree
invariant-loop-tree l = (l.formulas.items ≡ map shallow (take l.tree-index l.trees)) × All IsFormed l.formulas.items
