-- Each part of a tree has fewer nodes than the tree.
use Rattle.std.specs.Prelude.{◌+◌, ◌≤◌, max, List, [], ◌∷◌}
use Rattle.std.proofs.Common.{arith}
use denote.Param.Weighed.{most}
use Rattle.exp_tree.specs.declared.expansion.Inst.{Inst}
use Rattle.exp_tree.specs.declared.expansion.ExpRoot.{ExpRoot}
use Rattle.exp_tree.specs.declared.expansion.ExpRoot.TheVariants.{Wk, Leaf, Not, And, Or, Imp, Weak, Strong}
use Rattle.exp_tree.specs.declared.expansion.Exp.TheDeep.{deep-ExpRoot, deep-Inst}
use Rattle.exp_tree.specs.Sizes.{exp_nodes, insts_nodes}
use Rattle.exp_tree.specs.Shown.{exp_of, insts_of}

-- no tree of an instance has more nodes than all of them together
most_le-nodes : (is : List Inst) → most deep-Inst is ≤ insts_nodes (insts_of is) + 1
most_le-nodes [] = omega arith
most_le-nodes (i ∷ is) = omega (arith, most_le-nodes is)

pub falls : (r : ExpRoot) → max (deep-ExpRoot r) 0 ≤ exp_nodes (exp_of r)
falls (Wk f) = omega arith
falls (Leaf f) = omega arith
falls (Not e) = omega arith
falls (And d e) = omega arith
falls (Or d e) = omega arith
falls (Imp d e) = omega arith
falls (Weak f is) = omega (arith, most_le-nodes is.items)
falls (Strong f y e) = omega arith
