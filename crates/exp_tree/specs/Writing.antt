-- Expansion trees as a flat list.
--     place      where a tree stands in a list
--     node_in      a tree as a node that names its children by their places
--     flat_of      the flat list of the trees for a sequent: its nodes are their distinct trees in post-order, left roots before right ones
use Rattle.std.specs.Prelude.{ℕ, List, [], ◌∷◌, map}
use Rattle.std.specs.List.{position_or_len}
use Rattle.fol.specs.Syntax.{Term}
use Rattle.expansion_laws.specs.Expansions.{Exp as Tree, wk, leaf, neg, conj, disj, impl, weak, strong, Insts, none, more}
use Rattle.expansion_laws.specs.Dependency.{Expansion}
use Rattle.exp_tree.specs.Subtrees.{same_tree, distinct_trees}
use Rattle.exp_tree.specs.declared.flat.ExpNode.{ExpNode}
use Rattle.exp_tree.specs.declared.flat.ExpNode.TheVariants.{Wk, Leaf, Not, And, Or, Imp, Weak, Strong}
use Rattle.exp_tree.specs.declared.flat.FlatExp.{FlatExp}

abbrev pub place : List Tree → Tree → ℕ
place ts e = position_or_len (same_tree e) ts

-- the terms of instances with the places of their trees
abbrev pub places_in : List Tree → Insts → List (Term × ℕ)
places_in ts none = []
places_in ts (more t e is) = (t, place ts e) ∷ places_in ts is

abbrev pub node_in : List Tree → Tree → ExpNode
node_in ts (wk f) = Wk f
node_in ts (leaf f) = Leaf f
node_in ts (neg e) = Not (place ts e)
node_in ts (conj d e) = And (place ts d) (place ts e)
node_in ts (disj d e) = Or (place ts d) (place ts e)
node_in ts (impl d e) = Imp (place ts d) (place ts e)
node_in ts (weak f is) = Weak f (places_in ts is)
node_in ts (strong f y e) = Strong f y (place ts e)

-- trees of which each stands there with its children, as nodes
abbrev pub nodes_of : List Tree → List ExpNode
nodes_of ts = map (node_in ts) ts

abbrev pub flat_of : Expansion → FlatExp
flat_of x =
    record {
      nodes = nodes_of (distinct_trees x);
      left = map (place (distinct_trees x)) x.left;
      right = map (place (distinct_trees x)) x.right;
    }
