-- What is written is without fault and is read as the same trees.
use Rattle.std.proofs.Common.{◌≡◌, ℕ, ◌+◌, ◌-◌, ◌<◌, ◌≤◌, zero, suc, Bool, true, false, ◌||◌, List, [], ◌∷◌, ◌++◌, map, take, length, get_or, refl, sym, ap, ◌∙◌, subst, arith, inl, inr, append_assoc, append-nil}
use Rattle.std.specs.Prelude.{Some, None, nat_lt, slice_get, option_and_then, if◌then◌else◌}
use Rattle.std.specs.List.{All, list_any, list_all}
use Rattle.std.specs.Ordering.{is_eq}
use Rattle.std.specs.Cmp.Derive.{both_true}
use Rattle.std.proofs.lemmas.Bool.{and_parts, cases_lt}
use Rattle.std.proofs.lemmas.Bool.Decides.{nat_tests}
use Rattle.std.proofs.lemmas.List.{get_or-map, length-append, length-map, map_push, take_more}
use Rattle.std.proofs.lemmas.List.Elements.{All-weaker}
use Rattle.std.proofs.lemmas.List.Folds.{list_all-append}
use Rattle.std.proofs.lemmas.Option.{slice_get-get_or, slice_get_within, get_or_from_slice_get}
use Rattle.std.proofs.Math.Bool.{or-true}
use Rattle.finite.specs.Finite.{IsRising}
use Rattle.finite.proofs.Rising.{head_below, tail_rises, below_at, turned_less}
use Rattle.fol.specs.Syntax.{top}
use Rattle.fol.specs.Order.{formula_cmp}
use Rattle.fol.specs.OrderLaws.{formula_total}
use Rattle.lk_rules.specs.declared.sequent.Side.{Side}
use Rattle.lk_rules.specs.declared.sequent.Side.TheVariants.{Left, Right}
use Rattle.expansion_laws.specs.Expansions.{Exp as Tree, wk, shallow}
use Rattle.expansion_laws.specs.Dependency.{Expansion}
use Rattle.expansion_laws.specs.Proofs.{stands}
use Rattle.exp_tree.specs.Codes.{coded_exp}
use Rattle.exp_tree.specs.Sorting.{sorted}
use Rattle.number_hash.specs.Codes.{same_by_decides}
use Rattle.exp_tree.specs.Sequents.{AreArranged}
use Rattle.exp_tree.specs.FlatLists.{tree_at, trees_of, IsWithoutNodeFault}
use Rattle.exp_tree.specs.Roots.{has_same_formula, root_fault, side_fault_at, IsRightSideBefore, IsWithoutRootFault, side_over, expansion_over}
use Rattle.exp_tree.specs.Reads.{IsWithoutFault}
use Rattle.exp_tree.specs.Subtrees.{same_tree, subtrees, subtrees_each, with_each, distinct_trees}
use Rattle.exp_tree.specs.Writing.{place, nodes_of, flat_of}
use Rattle.exp_tree.specs.Tables.{AreDistinct}
use Rattle.exp_tree.specs.declared.flat.FlatExp.{FlatExp}
use Rattle.exp_tree.specs.declared.flat.RootCause.TheVariants.{Reference, Polarity, Twice}
use Rattle.exp_tree.proofs.Arranged.{each_passes}
use Rattle.exp_tree.proofs.Entered.{somewhere}
use Rattle.exp_tree.proofs.Listed.{all-append, grows}
use Rattle.exp_tree.proofs.RisingLists.{sorted_rising}
use Rattle.exp_tree.proofs.TableTrees.{are_below, longer, place_back, trees_longer}
use Rattle.exp_tree.proofs.RootWalk.{below_test}

-- the roots of a side
record AreRoots (ts : List Tree) (side : Side) (roots : List ℕ) (trees : List Tree) : Type 0 where
  early : are_below (length ts) roots ≡ true
  same : map (tree_at ts) roots ≡ trees
  stand : list_all (stands side) trees ≡ true
  rises : IsRising formula_cmp (map shallow trees)

pub places_back : (ts : List Tree) → AreDistinct ts → (roots : List ℕ) → are_below (length ts) roots ≡ true → map (place ts) (map (tree_at ts) roots) ≡ roots
places_back ts distinct [] h = refl
places_back ts distinct (r ∷ rs) h =
    let parts = and_parts (nat_lt r (length ts)) (are_below (length ts) rs) h in
    λ k. place_back ts distinct r parts.0 k ∷ places_back ts distinct rs parts.1 k

passes_at : {X : Type 0} (p : X → Bool) (xs : List X) (k : ℕ) (d : X) → k < length xs → list_all p xs ≡ true → p (get_or xs k d) ≡ true
passes_at p [] k d within h = absurd (omega arith)
passes_at p (x ∷ xs) zero d within h = (and_parts (p x) (list_all p xs) h).0
passes_at p (x ∷ xs) (suc k) d within h = passes_at p xs k d (omega arith) (and_parts (p x) (list_all p xs) h).1

-- a formula isn't that of an earlier root
not_twice : (ts : List Tree) (rs : List ℕ) (k : ℕ) → k < length rs → IsRising formula_cmp (map shallow (map (tree_at ts) rs)) → list_any (has_same_formula ts (get_or rs k 0)) (take k rs) ≡ false
not_twice ts [] k within up = absurd (omega arith)
not_twice ts (q ∷ rs) zero within up = refl
not_twice ts (q ∷ rs) (suc k) within up =
    let formulas = map shallow (map (tree_at ts) rs) in
    let r = get_or rs k 0 in
    let long : k < length formulas = let one = length-map (map (tree_at ts) rs) shallow in let two = length-map rs (tree_at ts) in omega (arith, one, two) in
    let here : get_or formulas k top ≡ shallow (tree_at ts r) =
    let within_trees : k < length (map (tree_at ts) rs) = let two = length-map rs (tree_at ts) in omega (arith, two) in
    get_or-map shallow (map (tree_at ts) rs) k (wk top) top within_trees ∙ ap shallow (get_or-map (tree_at ts) rs k 0 (wk top) (omega arith)) in
    let less = below_at formula_cmp (shallow (tree_at ts q)) formulas (head_below formula_cmp (shallow (tree_at ts q)) formulas up) k top long in
    let apart : has_same_formula ts r q ≡ false = ap is_eq (turned_less formula_cmp formula_total (shallow (tree_at ts q)) (shallow (tree_at ts r)) (ap (formula_cmp (shallow (tree_at ts q))) (sym here) ∙ less)) in
    ap (λ b. b || list_any (has_same_formula ts r) (take k rs)) apart ∙ not_twice ts rs k (omega arith) (tail_rises formula_cmp (shallow (tree_at ts q)) formulas up)

side_right : (ts : List Tree) (side : Side) (roots : List ℕ) (trees : List Tree) → AreRoots ts side roots trees → IsRightSideBefore ts side roots (length roots)
side_right ts side roots trees are k within =
    let r = get_or roots k 0 in
    let early : nat_lt r (length ts) ≡ true = passes_at (λ n. nat_lt n (length ts)) roots k 0 within are.early in
    let long : k < length trees = let many = length-map roots (tree_at ts) in let same = ap length are.same in omega (arith, many, same) in
    let stand : stands side (tree_at ts r) ≡ true =
    ap (stands side) (sym (get_or-map (tree_at ts) roots k 0 (wk top) within) ∙ ap (λ es. get_or es k (wk top)) are.same) ∙ passes_at (stands side) trees k (wk top) long are.stand in
    let new = not_twice ts roots k within (subst (λ es. IsRising formula_cmp (map shallow es)) (sym are.same) are.rises) in
    ap (option_and_then (root_fault ts side (take k roots))) (slice_get-get_or roots k 0 within)
    ∙ ap (λ b. if b then (if stands side (tree_at ts r) then (if list_any (has_same_formula ts r) (take k roots) then Some Twice else None) else Some Polarity) else Some Reference) early
    ∙ ap (λ b. if b then (if list_any (has_same_formula ts r) (take k roots) then Some Twice else None) else Some Polarity) stand
    ∙ ap (λ b. if b then Some Twice else None) new

both_right : (flat : FlatExp) → IsRightSideBefore (trees_of flat.nodes) Left flat.left (length flat.left) → IsRightSideBefore (trees_of flat.nodes) Right flat.right (length flat.right)
    → IsWithoutRootFault flat
both_right flat left right m within =
    elim (cases_lt m (length flat.left)) [
      | inl low ↦
          let test : nat_lt m (length flat.left) ≡ true = grind (arith, nat_tests) in
          ap (λ b. if b then side_fault_at (trees_of flat.nodes) Left flat.left m else side_fault_at (trees_of flat.nodes) Right flat.right (m - length flat.left)) test ∙ left m low
      | inr high ↦
          let test : nat_lt m (length flat.left) ≡ false = grind (arith, nat_tests) in
          ap (λ b. if b then side_fault_at (trees_of flat.nodes) Left flat.left m else side_fault_at (trees_of flat.nodes) Right flat.right (m - length flat.left)) test
          ∙ right (m - length flat.left) (omega arith)
    ]

-- what is written of trees: the nodes of the table, and the places of the roots there
pub record IsWritten (x : Expansion) (ts : List Tree) (flat : FlatExp) : Type 0 where
  pub written : flat ≡ flat_of x
  pub right : IsWithoutFault flat
  pub read : expansion_over flat ≡ x

all_written : (x : Expansion) (ts : List Tree) (flat : FlatExp) → ts ≡ distinct_trees x → AreDistinct ts → flat.nodes ≡ nodes_of ts → trees_of flat.nodes ≡ ts → IsWithoutNodeFault flat.nodes
    → are_below (length ts) flat.left ≡ true → map (tree_at ts) flat.left ≡ x.left → are_below (length ts) flat.right ≡ true → map (tree_at ts) flat.right ≡ x.right
    → AreArranged x.left → AreArranged x.right → list_all (stands Left) x.left ≡ true → list_all (stands Right) x.right ≡ true → IsWritten x ts flat
all_written x ts flat ts_is distinct nodes trees right early_left left early_right right_is arranged_left arranged_right stand_left stand_right = record {
  written =
      let left_places : flat.left ≡ map (place ts) x.left = sym (places_back ts distinct flat.left early_left) ∙ ap (map (place ts)) left in
      let right_places : flat.right ≡ map (place ts) x.right = sym (places_back ts distinct flat.right early_right) ∙ ap (map (place ts)) right_is in
      (λ k. record { nodes = nodes k; left = left_places k; right = right_places k }) ∙ ap (λ us. record { nodes = nodes_of us; left = map (place us) x.left; right = map (place us) x.right }) ts_is;
  right = record {
    nodes = right;
    roots =
        both_right flat
        (subst (λ us. IsRightSideBefore us Left flat.left (length flat.left)) (sym trees) (side_right ts Left flat.left x.left (record { early = early_left; same = left; stand = stand_left; rises = arranged_left.rises })))
        (subst (λ us. IsRightSideBefore us Right flat.right (length flat.right)) (sym trees) (side_right ts Right flat.right x.right (record { early = early_right; same = right_is; stand = stand_right; rises = arranged_right.rises })));
  };
  read =
      let left_sorted : side_over (trees_of flat.nodes) flat.left ≡ x.left = ap (λ us. side_over us flat.left) trees ∙ ap (sorted formula_cmp shallow) left ∙ sorted_rising formula_cmp shallow x.left arranged_left.rises in
      let right_sorted : side_over (trees_of flat.nodes) flat.right ≡ x.right = ap (λ us. side_over us flat.right) trees ∙ ap (sorted formula_cmp shallow) right_is ∙ sorted_rising formula_cmp shallow x.right arranged_right.rises in
      λ k. record { left = left_sorted k; right = right_sorted k };
}

-- the places on the left were found in the table with fewer trees
pub written_roots : (x : Expansion) (mid ts : List Tree) (flat : FlatExp) → mid ≡ with_each [] (subtrees_each x.left) → ts ≡ with_each mid (subtrees_each x.right)
    → AreDistinct ts → flat.nodes ≡ nodes_of ts → trees_of flat.nodes ≡ ts → IsWithoutNodeFault flat.nodes
    → are_below (length mid) flat.left ≡ true → map (tree_at mid) flat.left ≡ x.left → are_below (length ts) flat.right ≡ true → map (tree_at ts) flat.right ≡ x.right
    → AreArranged x.left → AreArranged x.right → list_all (stands Left) x.left ≡ true → list_all (stands Right) x.right ≡ true → IsWritten x ts flat
written_roots x mid ts flat mid_is ts_is distinct nodes trees right early_left left early_right right_is arranged_left arranged_right stand_left stand_right =
    let more = grows same_tree (same_by_decides coded_exp) mid (subtrees_each x.right) in
    let few : length mid ≤ length ts = let long = ap length (ts_is ∙ more.1) in let sum = length-append mid more.0 in omega (arith, long, sum) in
    let whole : ts ≡ distinct_trees x = ts_is ∙ ap (λ us. with_each us (subtrees_each x.right)) mid_is ∙ sym (all-append same_tree (same_by_decides coded_exp) [] (subtrees_each x.left) (subtrees_each x.right)) in
    let kept : map (tree_at ts) flat.left ≡ x.left = ap (λ us. map (tree_at us) flat.left) (ts_is ∙ more.1) ∙ trees_longer mid more.0 flat.left early_left ∙ left in
    all_written x ts flat whole distinct nodes trees right (longer (length mid) (length ts) flat.left few early_left) kept early_right right_is arranged_left arranged_right stand_left stand_right

-- one tree more
each_push : (es : List Tree) (e : Tree) → subtrees_each (es ++ e ∷ []) ≡ subtrees_each es ++ subtrees e
each_push [] e = append-nil (subtrees e)
each_push (d ∷ es) e = ap (λ xs. subtrees d ++ xs) (each_push es e) ∙ sym (append_assoc (subtrees d) (subtrees_each es) (subtrees e))

longer_trees : (es : List Tree) (k : ℕ) (e : Tree) → k < length es → e ≡ get_or es k e → take (k + 1) es ≡ take k es ++ e ∷ []
longer_trees es k e within it = take_more es k e within ∙ ap (λ (d : Tree). take k es ++ d ∷ []) (sym it)

pub each_next : (es : List Tree) (k : ℕ) (e : Tree) (old mid new : List Tree) → k < length es → e ≡ get_or es k e
    → mid ≡ with_each old (subtrees_each (take k es)) → new ≡ with_each mid (subtrees e) → new ≡ with_each old (subtrees_each (take (k + 1) es))
each_next es k e old mid new within it far here =
    here ∙ ap (λ xs. with_each xs (subtrees e)) far ∙ sym (all-append same_tree (same_by_decides coded_exp) old (subtrees_each (take k es)) (subtrees e))
    ∙ ap (with_each old) (sym (ap subtrees_each (longer_trees es k e within it) ∙ each_push (take k es) e))

pub roots_next : (es : List Tree) (k : ℕ) (e : Tree) (mid new : List Tree) (ps qs : List ℕ) (p : ℕ) → k < length es → e ≡ get_or es k e → are_below (length mid) ps ≡ true
    → map (tree_at mid) ps ≡ take k es → new ≡ with_each mid (subtrees e) → slice_get new p ≡ Some e → qs ≡ ps ++ p ∷ []
    → (are_below (length new) qs ≡ true) × (map (tree_at new) qs ≡ take (k + 1) es)
roots_next es k e mid new ps qs p within it early so_far new_is at qs_is =
    let more = grows same_tree (same_by_decides coded_exp) mid (subtrees e) in
    let few : length mid ≤ length new = let long = ap length (new_is ∙ more.1) in let sum = length-append mid more.0 in omega (arith, long, sum) in
    let kept : map (tree_at new) ps ≡ take k es = ap (λ ts. map (tree_at ts) ps) (new_is ∙ more.1) ∙ trees_longer mid more.0 ps early ∙ so_far in
    let last : tree_at new p ≡ e = get_or_from_slice_get new p e (wk top) at in (
      ap (are_below (length new)) qs_is ∙ list_all-append (λ n. nat_lt n (length new)) ps (p ∷ [])
          ∙ both_true (longer (length mid) (length new) ps few early) (both_true (below_test p (length new) (slice_get_within new p e at)) refl),
      ap (map (tree_at new)) qs_is ∙ map_push (tree_at new) ps p ∙ (λ j. kept j ++ last j ∷ []) ∙ sym (longer_trees es k e within it),
    )

-- trees that stand on their sides stand on a side
pub left_somewhere : (es : List Tree) → list_all (stands Left) es ≡ true → All (λ e. somewhere e ≡ true) es
left_somewhere es h = All-weaker (λ e. stands Left e ≡ true) (λ e. somewhere e ≡ true) (λ e k. ap (λ b. b || stands Right e) k) es (each_passes (stands Left) es h)

pub right_somewhere : (es : List Tree) → list_all (stands Right) es ≡ true → All (λ e. somewhere e ≡ true) es
right_somewhere es h = All-weaker (λ e. stands Right e ≡ true) (λ e. somewhere e ≡ true) (λ e k. ap (λ b. stands Left e || b) k ∙ or-true (stands Left e)) es (each_passes (stands Right) es h)
