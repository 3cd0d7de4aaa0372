-- The trees of a flat list without fault are rightly built, each on its side.
use Rattle.std.proofs.Common.{◌≡◌, ℕ, ◌+◌, ◌-◌, Bool, true, false, ◌||◌, cond, List, [], ◌∷◌, map, take, drop, length, get_or, refl, sym, ap, ◌∙◌, arith}
use Rattle.std.specs.Prelude.{Some, None, nat_lt, slice_get, option_and_then, if◌then◌else◌}
use Rattle.std.specs.List.{All, list_all, list_any}
use Rattle.std.specs.declared.cmp.Ordering.{Ordering}
use Rattle.std.specs.Cmp.Derive.{both_true}
use Rattle.std.proofs.lemmas.Bool.{and_parts, ltb-true, le-ltb}
use Rattle.std.proofs.lemmas.List.{take-append-drop}
use Rattle.std.proofs.lemmas.List.Folds.{list_all-map}
use Rattle.std.proofs.lemmas.List.Sums.{AllPass-from_list_all, list_all-from_AllPass}
use Rattle.std.proofs.lemmas.Option.{slice_get_within, slice_get-get_or, get_or_from_slice_get}
use Rattle.fol.specs.Syntax.{top}
use Rattle.fol.specs.Order.{formula_cmp}
use Rattle.lk_rules.specs.declared.sequent.Side.{Side}
use Rattle.lk_rules.specs.declared.sequent.Side.TheVariants.{Left, Right}
use Rattle.expansion_laws.specs.Expansions.{Exp as Tree, shallow, wk}
use Rattle.expansion_laws.specs.Building.{is_built}
use Rattle.expansion_laws.specs.Proofs.{stands}
use Rattle.exp_tree.specs.Sorting.{placed, sorted_onto}
use Rattle.exp_tree.specs.FlatLists.{children, tree_at, tree_over, trees_of, node_fault, has_shape, IsWithoutNodeFault}
use Rattle.exp_tree.specs.Roots.{has_same_formula, root_fault, side_fault_at, IsRightSideBefore, side_over, expansion_over}
use Rattle.exp_tree.specs.Reads.{IsWithoutFault}
use Rattle.exp_tree.specs.FlatReading.{AreRight}
use Rattle.exp_tree.specs.declared.flat.ExpNode.{ExpNode}
use Rattle.exp_tree.specs.declared.flat.ExpNode.TheVariants.{Wk}
use Rattle.exp_tree.specs.declared.flat.FlatExp.{FlatExp}
use Rattle.exp_tree.specs.declared.flat.NodeCause.TheVariants.{Instance, Shape, Reference as NoNode, Polarity as NoSide}
use Rattle.exp_tree.specs.declared.flat.RootCause.TheVariants.{Reference, Polarity, Twice}
use Rattle.exp_tree.proofs.RootWalk.{all_placed, below_test}
use Rattle.exp_tree.proofs.TableTrees.{are_below, named_earlier, over_longer, as_many, row_at}

-- a node without fault has a rightly built tree
built_here : (ts : List Tree) (n : ExpNode) → node_fault ts n ≡ None → is_built (tree_over ts n) ≡ true
built_here ts n none = by (are_below (length ts) (children n)) (has_shape n) (is_built (tree_over ts n)) refl none
  where
    by : (early shape built : Bool) → is_built (tree_over ts n) ≡ built
        → cond early (cond shape (cond built (cond (stands Left (tree_over ts n) || stands Right (tree_over ts n)) None (Some NoSide)) (Some Instance)) (Some Shape)) (Some NoNode) ≡ None
        → is_built (tree_over ts n) ≡ true
    by true true true is none = is
    by true true false is none = cc
    by true false built is none = cc
    by false shape built is none = cc

module _ (nodes : List ExpNode) (right : IsWithoutNodeFault nodes) where
  built_node : (i : ℕ) (n : ExpNode) → slice_get nodes i ≡ Some n → is_built (tree_over (trees_of nodes) n) ≡ true
  built_node i n here =
      let ts = trees_of nodes in
      let fault : node_fault (take i ts) n ≡ None = sym (ap (option_and_then (node_fault (take i ts))) here) ∙ right i (slice_get_within nodes i n here) in
      let same : tree_over ts n ≡ tree_over (take i ts) n =
      ap (λ us. tree_over us n) (sym (take-append-drop i ts)) ∙ over_longer (take i ts) (drop i ts) n (named_earlier (take i ts) n fault) in
      ap is_built same ∙ built_here (take i ts) n fault

  built_at : (r : ℕ) → nat_lt r (length (trees_of nodes)) ≡ true → is_built (tree_at (trees_of nodes) r) ≡ true
  built_at r low =
      let many = as_many nodes in
      let few = ltb-true r (length (trees_of nodes)) low in
      let n = get_or nodes r (Wk top) in
      let here : slice_get nodes r ≡ Some n = slice_get-get_or nodes r (Wk top) (omega (arith, many, few)) in
      let tree = get_or_from_slice_get (trees_of nodes) r (tree_over (trees_of nodes) n) (wk top) (row_at nodes right r n here).there in
      ap is_built tree ∙ built_node r n here

-- what a root without fault is
pub record IsRightRoot (ts : List Tree) (side : Side) (r : ℕ) : Type 0 where
  pub there : nat_lt r (length ts) ≡ true
  pub stand : stands side (tree_at ts r) ≡ true

right_root : (ts : List Tree) (side : Side) (earlier : List ℕ) (r : ℕ) → root_fault ts side earlier r ≡ None → IsRightRoot ts side r
right_root ts side earlier r none = by (nat_lt r (length ts)) (stands side (tree_at ts r)) refl refl none
  where
    by : (there stand : Bool) → nat_lt r (length ts) ≡ there → stands side (tree_at ts r) ≡ stand
        → cond there (cond stand (cond (list_any (has_same_formula ts r) earlier) (Some Twice) None) (Some Polarity)) (Some Reference) ≡ None → IsRightRoot ts side r
    by true true there stand none = record { there = there; stand = stand }
    by true false there stand none = cc
    by false stand there is none = cc

-- sorted trees pass a test where the trees do
all_sorted : {X K : Type 0} (R : K → K → Ordering) (key : X → K) (p : X → Bool) (ys xs : List X) → list_all p ys ≡ true → list_all p xs ≡ true
    → list_all p (sorted_onto R key ys xs) ≡ true
all_sorted R key p ys [] old new = old
all_sorted R key p ys (x ∷ xs) old new =
    let both = and_parts (p x) (list_all p xs) new in
    all_sorted R key p (placed R key x ys) xs (all_placed R key p x ys ∙ both_true both.0 old) both.1

-- the trees of the roots of a side
module _ (ts : List Tree) (side : Side) (roots : List ℕ) (right : IsRightSideBefore ts side roots (length roots)) where
  each_root : (p : Tree → Bool) → ((r : ℕ) → IsRightRoot ts side r → p (tree_at ts r) ≡ true) → All (λ e. p e ≡ true) (side_over ts roots)
  each_root p passes =
      let at : All (λ r. p (tree_at ts r) ≡ true) roots = λ k d low.
      let here = slice_get-get_or roots k d low in
      passes (get_or roots k d) (right_root ts side (take k roots) (get_or roots k d) (sym (ap (option_and_then (root_fault ts side (take k roots))) here) ∙ right k low)) in
      AllPass-from_list_all p (side_over ts roots)
      (all_sorted formula_cmp shallow p [] (map (tree_at ts) roots) refl (list_all-map p (tree_at ts) roots ∙ list_all-from_AllPass (λ r. p (tree_at ts r)) roots at))

  standing : All (λ e. stands side e ≡ true) (side_over ts roots)
  standing = each_root (stands side) (λ r root. root.stand)

-- the roots of the sides
module _ (flat : FlatExp) (right : IsWithoutFault flat) where
  abbrev trees : List Tree
  trees = trees_of flat.nodes

  left_right : IsRightSideBefore trees Left flat.left (length flat.left)
  left_right k low =
      sym (ap (λ b. if b then side_fault_at trees Left flat.left k else side_fault_at trees Right flat.right (k - length flat.left)) (below_test k (length flat.left) low))
      ∙ right.roots k (omega (arith, low))

  right_right : IsRightSideBefore trees Right flat.right (length flat.right)
  right_right k low =
      let n = length flat.left + k in
      let past : nat_lt n (length flat.left) ≡ false = le-ltb n (length flat.left) (omega arith) in
      let place : n - length flat.left ≡ k = omega arith in
      sym (ap (λ b. if b then side_fault_at trees Left flat.left n else side_fault_at trees Right flat.right (n - length flat.left)) past
      ∙ ap (side_fault_at trees Right flat.right) place)
      ∙ right.roots n (omega (arith, low))

  pub right_trees : AreRight (expansion_over flat)
  right_trees = record {
    built_left = each_root trees Left flat.left left_right is_built (λ r root. built_at flat.nodes right.nodes r root.there);
    built_right = each_root trees Right flat.right right_right is_built (λ r root. built_at flat.nodes right.nodes r root.there);
    stand_left = standing trees Left flat.left left_right;
    stand_right = standing trees Right flat.right right_right;
  }
