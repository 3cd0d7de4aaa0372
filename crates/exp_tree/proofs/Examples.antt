-- Small flat lists, their faults and their trees, and merged trees.
use Rattle.std.proofs.Common.{◌≡◌, List, [], ◌∷◌, refl}
use Rattle.std.specs.Prelude.{Some, None}
use Rattle.fol.specs.Syntax.{free, top, bot, and, all, or}
use Rattle.fol.specs.declared.symbols.Var.TheVariants.{Num}
use Rattle.lk_rules.specs.declared.sequent.Side.TheVariants.{Left, Right}
use Rattle.expansion_laws.specs.Expansions.{Exp, wk, leaf, neg, conj, weak, strong, none, more}
use Rattle.exp_tree.specs.FlatLists.{fault_at, trees_of}
use Rattle.exp_tree.specs.Roots.{side_fault_at, side_over}
use Rattle.exp_tree.specs.Merging.{merged}
use Rattle.exp_tree.specs.declared.flat.ExpNode.{ExpNode}
use Rattle.exp_tree.specs.declared.flat.ExpNode.TheVariants.{Leaf, Not, And, Strong}
use Rattle.exp_tree.specs.declared.flat.NodeCause.TheVariants as cause
use Rattle.exp_tree.specs.declared.flat.RootCause.TheVariants as root

-- a negation of itself names no earlier node
names_itself : fault_at (Not 0 ∷ []) 0 ≡ Some cause.Reference
names_itself = refl

-- a disjunction is no leaf
no_leaf : fault_at (Leaf (or top bot) ∷ []) 0 ≡ Some cause.Shape
no_leaf = refl

-- falsity is no instance of a formula that says truth of all
no_instance : fault_at (Leaf bot ∷ Strong (all top) (Num 0) 0 ∷ []) 1 ≡ Some cause.Instance
no_instance = refl

-- a strong universal quantifier, its negation, and both together, which can stand on neither side
abbrev nodes : List ExpNode
nodes = Leaf top ∷ Strong (all top) (Num 0) 0 ∷ Not 1 ∷ And 1 2 ∷ []

right_strong : fault_at nodes 1 ≡ None
right_strong = refl

right_negation : fault_at nodes 2 ≡ None
right_negation = refl

on_neither_side : fault_at nodes 3 ≡ Some cause.Polarity
on_neither_side = refl

their_trees : trees_of nodes ≡ leaf top ∷ strong (all top) (Num 0) (leaf top) ∷ neg (strong (all top) (Num 0) (leaf top)) ∷ conj (strong (all top) (Num 0) (leaf top)) (neg (strong (all top) (Num 0) (leaf top))) ∷ []
their_trees = refl

-- the quantifier can't stand on the left and its negation can; a formula is given once; there is no node at place 4
wrong_side : side_fault_at (trees_of nodes) Left (1 ∷ []) 0 ≡ Some root.Polarity
wrong_side = refl

other_side : side_fault_at (trees_of nodes) Left (2 ∷ []) 0 ≡ None
other_side = refl

given_twice : side_fault_at (trees_of nodes) Left (0 ∷ 2 ∷ 0 ∷ []) 2 ≡ Some root.Twice
given_twice = refl

no_node : side_fault_at (trees_of nodes) Right (4 ∷ []) 0 ≡ Some root.Reference
no_node = refl

-- the roots by rising formula, whatever their order in the list
rising : side_over (trees_of nodes) (2 ∷ 0 ∷ []) ≡ leaf top ∷ neg (strong (all top) (Num 0) (leaf top)) ∷ []
rising = refl

-- each part is used in one tree, and a quantifier has the instances of both by rising term
abbrev one_tree : Exp
one_tree = weak (all (and top bot)) (more (free (Num 1)) (conj (leaf top) (wk bot)) (more (free (Num 2)) (conj (wk top) (wk bot)) none))

abbrev other_tree : Exp
other_tree = weak (all (and top bot)) (more (free (Num 0)) (conj (wk top) (wk bot)) (more (free (Num 1)) (conj (wk top) (leaf bot)) none))

both_trees : merged one_tree other_tree ≡ weak (all (and top bot))
    (more (free (Num 0)) (conj (wk top) (wk bot)) (more (free (Num 1)) (conj (leaf top) (leaf bot)) (more (free (Num 2)) (conj (wk top) (wk bot)) none)))
both_trees = refl
