use Rattle.std.proofs.Common.{◌≡◌, ◌++◌, drop}
use Rattle.expansion_laws.specs.Dependency.{strongs_each}
use Rattle.exp_tree.proofs.sequent_formulas.push_strongs_each.Given as goal

abbrev pub invariant-loop-tree : goal.invariant-loop-tree
invariant-loop-tree l = l.list.items ++ strongs_each (drop l.tree-index l.trees) ≡ l.initial.list.items ++ strongs_each l.trees
