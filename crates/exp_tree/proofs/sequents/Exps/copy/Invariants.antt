-- The trees so far are copied.
use Rattle.std.proofs.Common.{◌≡◌, take}
use Rattle.exp_tree.proofs.sequents.Exps.copy.Given as goal

abbrev pub invariant-loop-tree : goal.invariant-loop-tree
invariant-loop-tree l = l.items.items ≡ take l.tree-index l.self
