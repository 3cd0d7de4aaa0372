-- Tables of distinct trees, by the nodes that stand for them.
--     same_node, node_fingerprint      whether two nodes are equal, and a number in which unequal ones mostly differ
--     AreDistinct      no tree stands twice in a list
--     IsTable      what the nodes of a table are
--     IsNodeOf      a node that stands for a tree over the trees of a list
use Rattle.std.specs.Prelude.{◌≡◌, ℕ, nat_lt, Bool, true, List, length, map, fold, Some, slice_get}
use Rattle.std.specs.List.{All, list_all}
use Rattle.std.specs.Coded.{Coded}
use Rattle.fol.specs.Syntax.{Term}
use Rattle.fol.specs.Order.{term_cmp}
use Rattle.fol.specs.Mixing.{mixed}
use Rattle.fol.specs.Facts.{var_fingerprint, term_fingerprint, formula_fingerprint}
use Rattle.finite.specs.Finite.{IsRising}
use Rattle.expansion_laws.specs.Expansions.{Exp as Tree}
use Rattle.number_hash.specs.Codes.{same_by}
use Rattle.exp_tree.specs.FlatLists.{children, has_shape, is_formed_node, tree_over, trees_of, IsWithoutNodeFault}
use Rattle.exp_tree.specs.declared.flat.ExpNode.{ExpNode}
use Rattle.exp_tree.specs.declared.flat.ExpNode.TheVariants.{Wk, Leaf, Not, And, Or, Imp, Weak, Strong}
use Rattle.exp_tree.specs.contracts.flat.ExpNode as row

abbrev pub coded_node : Coded ExpNode
coded_node = row.the_row.coded

abbrev pub same_node : ExpNode → ExpNode → Bool
same_node = same_by coded_node

-- the fingerprint with that of an instance in it
abbrev pub with_inst : ℕ → Term × ℕ → ℕ
with_inst h i = mixed (mixed h (term_fingerprint i.0)) i.1

unfoldable pub node_fingerprint : ExpNode → ℕ
node_fingerprint (Wk f) = mixed 0 (formula_fingerprint f)
node_fingerprint (Leaf f) = mixed 1 (formula_fingerprint f)
node_fingerprint (Not m) = mixed 2 m
node_fingerprint (And m n) = mixed (mixed 3 m) n
node_fingerprint (Or m n) = mixed (mixed 4 m) n
node_fingerprint (Imp m n) = mixed (mixed 5 m) n
node_fingerprint (Weak f is) = fold with_inst (mixed 6 (formula_fingerprint f)) is
node_fingerprint (Strong f y m) = mixed (mixed (mixed 7 (formula_fingerprint f)) (var_fingerprint y)) m

-- the terms of the instances at a weak quantifier rise
abbrev pub HasRisingTerms : ExpNode → Type 0
HasRisingTerms (Weak f is) = IsRising term_cmp (map (λ i. i.0) is)
HasRisingTerms n = Unit {0}

abbrev pub AreDistinct : List Tree → Type 0
AreDistinct ts = (i j : ℕ) (e : Tree) → slice_get ts i ≡ Some e → slice_get ts j ≡ Some e → i ≡ j

-- no node is faulty, each names what is well formed, with instances by rising term, and the trees of the nodes differ
pub record IsTable (nodes : List ExpNode) : Type 0 where
  pub right : IsWithoutNodeFault nodes
  pub formed : list_all is_formed_node nodes ≡ true
  pub rising : All HasRisingTerms nodes
  pub distinct : AreDistinct (trees_of nodes)

-- the node names earlier nodes and what is well formed, with instances by rising term, and its tree is this one
pub record IsNodeOf (ts : List Tree) (e : Tree) (node : ExpNode) : Type 0 where
  pub earlier : list_all (λ n. nat_lt n (length ts)) (children node) ≡ true
  pub shape : has_shape node ≡ true
  pub formed : is_formed_node node ≡ true
  pub rising : HasRisingTerms node
  pub tree : tree_over ts node ≡ e
