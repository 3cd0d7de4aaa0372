-- The walk over the nodes of a flat list.
use Rattle.std.proofs.Common.{◌≡◌, ℕ, ◌+◌, ◌<◌, List, [], ◌∷◌, ◌++◌, take, drop, length, get_or, sym, ap, ◌∙◌, subst, below_more, append_assoc}
use Rattle.std.specs.Prelude.{Some, None, option_and_then, Err}
use Rattle.std.proofs.lemmas.List.{at_drop_more, length_push, append-nil}
use Rattle.std.proofs.lemmas.Option.{slice_get-get_or}
use Rattle.std.proofs.Math.Seq.{take-append_seam}
use Rattle.expansion_laws.specs.Expansions.{Exp}
use Rattle.exp_tree.specs.declared.flat.ExpNode.{ExpNode}
use Rattle.exp_tree.specs.declared.flat.NodesFault.{NodesFault}
use Rattle.exp_tree.specs.declared.reading.NodeFault.{NodeFault}
use Rattle.exp_tree.specs.declared.reading.NodeFault.TheVariants.{Cause, Memory}
use Rattle.exp_tree.specs.Reading.{ReadsNode, of_node, IsNodeOrMemory}
use Rattle.exp_tree.specs.FlatLists.{tree_over, trees_after, trees_of, node_fault, fault_at, IsRightBefore}

-- the trees of the first nodes, none of which is faulty
pub record AreTreesSoFar (nodes : List ExpNode) (i : ℕ) (trees : List Exp) : Type 0 where
  pub many : length trees ≡ i
  pub whole : trees_after trees (drop i nodes) ≡ trees_of nodes
  pub right : IsRightBefore nodes i

goes_on : (earlier : List Exp) (nodes : List ExpNode) → (more : List Exp) × (trees_after earlier nodes ≡ earlier ++ more)
goes_on earlier [] = ([], sym (append-nil earlier))
goes_on earlier (node ∷ later) =
    let rest = goes_on (earlier ++ tree_over earlier node ∷ []) later in
    (tree_over earlier node ∷ rest.0, rest.1 ∙ append_assoc earlier (tree_over earlier node ∷ []) rest.0)

first_trees : (nodes : List ExpNode) (i : ℕ) (trees : List Exp) → AreTreesSoFar nodes i trees → take i (trees_of nodes) ≡ trees
first_trees nodes i trees far =
    let rest = goes_on trees (drop i nodes) in
    (λ j. take (sym far.many j) ((sym far.whole ∙ rest.1) j)) ∙ take-append_seam trees rest.0

pub fault_here : (nodes : List ExpNode) (i : ℕ) (trees : List Exp) (node : ExpNode) → AreTreesSoFar nodes i trees → i < length nodes → node ≡ get_or nodes i node
    → fault_at nodes i ≡ node_fault trees node
fault_here nodes i trees node far within is =
    (λ j. option_and_then (node_fault (first_trees nodes i trees far j)) ((slice_get-get_or nodes i node within ∙ ap Some (sym is)) j))

pub first_fault : (nodes : List ExpNode) (i : ℕ) (trees : List Exp) (node : ExpNode) (found : NodeFault) (result : NodesFault) → AreTreesSoFar nodes i trees → i < length nodes
    → node ≡ get_or nodes i node → ReadsNode (Err found) trees node → result ≡ of_node i found → IsNodeOrMemory nodes result
first_fault nodes i trees node (Cause cause) result far within is wrong result_is =
    subst (IsNodeOrMemory nodes) (sym result_is) (record { here = fault_here nodes i trees node far within is ∙ wrong; before = far.right })
first_fault nodes i trees node Memory result far within is wrong result_is = subst (IsNodeOrMemory nodes) (sym result_is) tt

pub one_more : (nodes : List ExpNode) (i : ℕ) (trees : List Exp) (node : ExpNode) (tree : Exp) → AreTreesSoFar nodes i trees → i < length nodes → node ≡ get_or nodes i node
    → node_fault trees node ≡ None → tree ≡ tree_over trees node → AreTreesSoFar nodes (i + 1) (trees ++ tree ∷ [])
one_more nodes i trees node tree far within is right tree_is = record {
  many = length_push trees tree ∙ ap (λ n. n + 1) far.many;
  whole =
      ap (λ (t : Exp). trees_after (trees ++ t ∷ []) (drop (i + 1) nodes)) tree_is
      ∙ sym (at_drop_more (trees_after trees) nodes i node within ∙ ap (λ (n : ExpNode). trees_after trees (n ∷ drop (i + 1) nodes)) (sym is))
      ∙ far.whole;
  right = below_more (λ j. fault_at nodes j ≡ None) i far.right (fault_here nodes i trees node far within is ∙ right);
}

pub pushed : (nodes : List ExpNode) (i : ℕ) (trees new : List Exp) (node : ExpNode) (tree : Exp) → AreTreesSoFar nodes i trees → i < length nodes → node ≡ get_or nodes i node
    → (node_fault trees node ≡ None) × (tree ≡ tree_over trees node) → new ≡ trees ++ tree ∷ [] → AreTreesSoFar nodes (i + 1) new
pushed nodes i trees new node tree far within is read new_is = subst (AreTreesSoFar nodes (i + 1)) (sym new_is) (one_more nodes i trees node tree far within is read.0 read.1)
