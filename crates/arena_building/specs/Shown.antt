-- What is there of an expansion tree, as a tree.
use Rattle.std.specs.Prelude.{map}
use Rattle.expansion_laws.specs.Expansions.{Exp, wk, leaf, neg, conj, disj, impl, weak, strong}
use Rattle.exp_tree.specs.Shown.{insts_of}
use Rattle.arena_building.specs.declared.placed.Root.{Root}
use Rattle.arena_building.specs.declared.placed.Root.TheVariants.{Wk, Leaf, Not, And, Or, Imp, Weak, Strong}

abbrev pub tree_of : Root → Exp
tree_of (Wk f) = wk f.now
tree_of (Leaf f) = leaf f.now
tree_of (Not e) = neg e.now
tree_of (And d e) = conj d.now e.now
tree_of (Or d e) = disj d.now e.now
tree_of (Imp d e) = impl d.now e.now
tree_of (Weak f is) = weak f.now (insts_of (map (λ i. i.now) is.items))
tree_of (Strong f y e) = strong f.now y.now e.now
