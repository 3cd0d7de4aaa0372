-- The walk over trees that enters them into a table.
use Rattle.std.proofs.Common.{◌≡◌, ℕ, ◌+◌, ◌<◌, ◌≤◌, zero, suc, Bool, true, false, ◌&&◌, ◌||◌, List, [], ◌∷◌, ◌++◌, map, take, length, get_or, refl, sym, ap, ◌∙◌, subst, append_assoc, append-nil, arith}
use Rattle.std.specs.Prelude.{Some, None, nat_lt, slice_get, if◌then◌else◌}
use Rattle.std.specs.List.{list_all}
use Rattle.std.specs.Cmp.Derive.{both_true}
use Rattle.std.proofs.lemmas.Bool.{and_parts}
use Rattle.std.proofs.lemmas.List.{take_more, map_push, length-append}
use Rattle.std.proofs.lemmas.List.Folds.{list_all-append, list_all-map}
use Rattle.std.proofs.lemmas.Option.{slice_get_within, get_or_from_slice_get}
use Rattle.std.proofs.Math.Bool.{or_comm, or-true}
use Rattle.indexmap.specs.IndexSet.{insert_key}
use Rattle.fol.specs.Syntax.{Term, free, Formula, top, all, ex}
use Rattle.fol.specs.Order.{term_cmp}
use Rattle.fol.specs.OrderLaws.{term_total}
use Rattle.fol.specs.Formed.{is_formed, is_formed_term, is_formed_var}
use Rattle.fol.specs.declared.symbols.Var.{Var}
use Rattle.finite.specs.Finite.{IsRising}
use Rattle.finite.proofs.Rising.{both, is_less, IsBelow, head_below, below_along}
use Rattle.lk_rules.specs.declared.sequent.Side.TheVariants.{Left, Right}
use Rattle.expansion_laws.specs.Expansions.{Exp as Tree, wk, leaf, neg, conj, disj, impl, weak, strong, Insts, shallow}
use Rattle.expansion_laws.specs.Building.{is_quantified, is_instance, is_built, are_built, is_below}
use Rattle.expansion_laws.specs.Proofs.{is_weak_on, is_strong_on, stands, stand_in}
use Rattle.exp_tree.specs.Codes.{coded_exp}
use Rattle.exp_tree.specs.Sizes.{exp_nodes, insts_nodes}
use Rattle.expansion_laws.specs.Formed.{is_formed_exp, are_formed_insts, IsProper}
use Rattle.exp_tree.specs.Shown.{insts_of}
use Rattle.exp_tree.specs.FlatLists.{has_shape, tree_at, inst_at, tree_over, tree_fault, node_fault}
use Rattle.exp_tree.specs.Subtrees.{same_tree, subtrees, subtrees_in, below, with_each}
use Rattle.exp_tree.specs.Tables.{IsNodeOf}
use Rattle.number_hash.specs.Codes.{same_by_decides}
use Rattle.exp_tree.specs.declared.expansion.Inst.{Inst}
use Rattle.exp_tree.specs.declared.flat.ExpNode.{ExpNode}
use Rattle.exp_tree.specs.declared.flat.ExpNode.TheVariants.{Wk, Leaf, Not, And, Or, Imp, Weak, Strong}
use Rattle.exp_tree.specs.declared.flat.NodeCause.TheVariants.{Reference, Shape, Instance, Polarity}
use Rattle.exp_tree.proofs.InstanceWalk.{below as lower}
use Rattle.exp_tree.proofs.Listed.{get_left, all-append, grows}
use Rattle.exp_tree.proofs.RisingLists.{sorted_rising}
use Rattle.exp_tree.proofs.RootWalk.{below_test}
use Rattle.exp_tree.proofs.SortedInstances.{is_less_back}
use Rattle.exp_tree.proofs.TableTrees.{are_below, insts_longer}

-- the tree can stand on a side
abbrev pub somewhere : Tree → Bool
somewhere e = stands Left e || stands Right e

one_of : (a b c d : Bool) → ((a && b) || (c && d)) ≡ true → ((a || c) ≡ true) × ((b || d) ≡ true)
one_of true true c d h = (refl, refl)
one_of true false true true h = (refl, refl)
one_of true false true false h = cc
one_of true false false d h = cc
one_of false b true true h = (refl, or-true b)
one_of false b true false h = cc
one_of false b false d h = cc

-- then so can its parts
pub neg_stands : (e : Tree) → somewhere (neg e) ≡ true → somewhere e ≡ true
neg_stands e h = or_comm (stands Left e) (stands Right e) ∙ h

pub conj_stand : (d e : Tree) → somewhere (conj d e) ≡ true → (somewhere d ≡ true) × (somewhere e ≡ true)
conj_stand d e h = one_of (stands Left d) (stands Left e) (stands Right d) (stands Right e) h

pub disj_stand : (d e : Tree) → somewhere (disj d e) ≡ true → (somewhere d ≡ true) × (somewhere e ≡ true)
disj_stand d e h = one_of (stands Left d) (stands Left e) (stands Right d) (stands Right e) h

pub impl_stand : (d e : Tree) → somewhere (impl d e) ≡ true → (somewhere d ≡ true) × (somewhere e ≡ true)
impl_stand d e h =
    let parts = one_of (stands Right d) (stands Left e) (stands Left d) (stands Right e) h in
    (or_comm (stands Left d) (stands Right d) ∙ parts.0, parts.1)

pub weak_stands : (f : Formula) (is : Insts) → somewhere (weak f is) ≡ true → (stand_in Left is || stand_in Right is) ≡ true
weak_stands f is h = (one_of (is_weak_on Left f) (stand_in Left is) (is_weak_on Right f) (stand_in Right is) h).1

pub strong_stands : (f : Formula) (y : Var) (e : Tree) → somewhere (strong f y e) ≡ true → somewhere e ≡ true
strong_stands f y e h = (one_of (is_strong_on Left f) (stands Left e) (is_strong_on Right f) (stands Right e) h).1

pub inst_stands : (is : List Inst) (k : ℕ) (i : Inst) → k < length is → i ≡ get_or is k i → (stand_in Left (insts_of is) || stand_in Right (insts_of is)) ≡ true → somewhere i.child ≡ true
inst_stands [] k i within it h = absurd (omega arith)
inst_stands (j ∷ is) zero i within it h =
    ap (λ (x : Inst). somewhere x.child) it ∙ (one_of (stands Left j.child) (stand_in Left (insts_of is)) (stands Right j.child) (stand_in Right (insts_of is)) h).0
inst_stands (j ∷ is) (suc k) i within it h =
    inst_stands is k i (omega arith) it (one_of (stands Left j.child) (stand_in Left (insts_of is)) (stands Right j.child) (stand_in Right (insts_of is)) h).1

pub inst_smaller : (is : List Inst) (k : ℕ) (i : Inst) → k < length is → i ≡ get_or is k i → exp_nodes i.child ≤ insts_nodes (insts_of is)
inst_smaller [] k i within it = absurd (omega arith)
inst_smaller (j ∷ is) zero i within it = let same : exp_nodes i.child ≡ exp_nodes j.child = ap (λ (x : Inst). exp_nodes x.child) it in omega (arith, same)
inst_smaller (j ∷ is) (suc k) i within it = let less = inst_smaller is k i (omega arith) it in omega (arith, less)

-- the trees below a tree, and then the tree
pub subtrees_last : (ts : List Tree) (e : Tree) → with_each ts (subtrees e) ≡ insert_key same_tree (with_each ts (below e)) e
subtrees_last ts e = last e
  where
    last : (e : Tree) → with_each ts (subtrees e) ≡ insert_key same_tree (with_each ts (below e)) e
    last (wk f) = refl
    last (leaf f) = refl
    last (neg e) = all-append same_tree (same_by_decides coded_exp) ts (subtrees e) (neg e ∷ [])
    last (conj d e) = all-append same_tree (same_by_decides coded_exp) ts (subtrees d ++ subtrees e) (conj d e ∷ [])
    last (disj d e) = all-append same_tree (same_by_decides coded_exp) ts (subtrees d ++ subtrees e) (disj d e ∷ [])
    last (impl d e) = all-append same_tree (same_by_decides coded_exp) ts (subtrees d ++ subtrees e) (impl d e ∷ [])
    last (weak f is) = all-append same_tree (same_by_decides coded_exp) ts (subtrees_in is) (weak f is ∷ [])
    last (strong f y e) = all-append same_tree (same_by_decides coded_exp) ts (subtrees e) (strong f y e ∷ [])

pub each_of_both : (ts us vs : List Tree) (d e : Tree) → us ≡ with_each ts (subtrees d) → vs ≡ with_each us (subtrees e) → vs ≡ with_each ts (subtrees d ++ subtrees e)
each_of_both ts us vs d e first second = second ∙ ap (λ xs. with_each xs (subtrees e)) first ∙ sym (all-append same_tree (same_by_decides coded_exp) ts (subtrees d) (subtrees e))

-- what stood in the table stands there
pub still : (ts us : List Tree) (e : Tree) (i : ℕ) (d : Tree) → us ≡ with_each ts (subtrees e) → slice_get ts i ≡ Some d → slice_get us i ≡ Some d
still ts us e i d us_is h =
    let more = grows same_tree (same_by_decides coded_exp) ts (subtrees e) in
    ap (λ xs. slice_get xs i) (us_is ∙ more.1) ∙ get_left ts more.0 i d h

within : (ts : List Tree) (i : ℕ) (e : Tree) → slice_get ts i ≡ Some e → nat_lt i (length ts) ≡ true
within ts i e h = below_test i (length ts) (slice_get_within ts i e h)

there : (ts : List Tree) (i : ℕ) (e : Tree) → slice_get ts i ≡ Some e → tree_at ts i ≡ e
there ts i e h = get_or_from_slice_get ts i e (wk top) h

-- the nodes of trees whose children stand in the table
pub wk_node : (ts : List Tree) (f : Formula) → IsProper (wk f) → IsNodeOf ts (wk f) (Wk f)
wk_node ts f proper = record { earlier = refl; shape = refl; formed = proper.formed; rising = tt; tree = refl }

pub leaf_node : (ts : List Tree) (f : Formula) → IsProper (leaf f) → IsNodeOf ts (leaf f) (Leaf f)
leaf_node ts f proper = record { earlier = refl; shape = proper.built; formed = proper.formed; rising = tt; tree = refl }

pub neg_node : (ts : List Tree) (e : Tree) (i : ℕ) → slice_get ts i ≡ Some e → IsNodeOf ts (neg e) (Not i)
neg_node ts e i h = record { earlier = both_true (within ts i e h) refl; shape = refl; formed = refl; rising = tt; tree = ap neg (there ts i e h) }

module _ (ts : List Tree) (d e : Tree) (i j : ℕ) (first : slice_get ts i ≡ Some d) (second : slice_get ts j ≡ Some e) where
  two_earlier : are_below (length ts) (i ∷ j ∷ []) ≡ true
  two_earlier = both_true (within ts i d first) (both_true (within ts j e second) refl)

  pub conj_node : IsNodeOf ts (conj d e) (And i j)
  conj_node = record { earlier = two_earlier; shape = refl; formed = refl; rising = tt; tree = λ k. conj (there ts i d first k) (there ts j e second k) }

  pub disj_node : IsNodeOf ts (disj d e) (Or i j)
  disj_node = record { earlier = two_earlier; shape = refl; formed = refl; rising = tt; tree = λ k. disj (there ts i d first k) (there ts j e second k) }

  pub impl_node : IsNodeOf ts (impl d e) (Imp i j)
  impl_node = record { earlier = two_earlier; shape = refl; formed = refl; rising = tt; tree = λ k. impl (there ts i d first k) (there ts j e second k) }

quantified : (f : Formula) (t : Term) (g : Formula) → is_instance f t g ≡ true → is_quantified f ≡ true
quantified (all b) t g h = refl
quantified (ex b) t g h = refl
quantified f t g h = cc

pub strong_node : (ts : List Tree) (f : Formula) (y : Var) (e : Tree) (i : ℕ) → IsProper (strong f y e) → slice_get ts i ≡ Some e → IsNodeOf ts (strong f y e) (Strong f y i)
strong_node ts f y e i proper h = record {
  earlier = both_true (within ts i e h) refl;
  shape = quantified f (free y) (shallow e) (and_parts (is_instance f (free y) (shallow e)) (is_built e) proper.built).0;
  formed = (and_parts (is_formed f && is_formed_var y) (is_formed_exp e) proper.formed).0;
  rising = tt;
  tree = ap (strong f y) (there ts i e h);
}

-- the terms of rightly built instances rise
pub terms_rise : (f : Formula) (is : List Inst) → are_built f (insts_of is) ≡ true → IsRising term_cmp (map (λ (i : Inst). i.term) is)
terms_rise f [] h = tt
terms_rise f (i ∷ is) h =
    let parts = and_parts (is_instance f i.term (shallow i.child) && is_built i.child) (is_below i.term (insts_of is) && are_built f (insts_of is)) h in
    let later = and_parts (is_below i.term (insts_of is)) (are_built f (insts_of is)) parts.1 in
    both _ _ (below_all_of is later.0 (terms_rise f is later.1)) (terms_rise f is later.1)
  where
    below_all_of : (js : List Inst) → is_below i.term (insts_of js) ≡ true → IsRising term_cmp (map (λ (j : Inst). j.term) js) → IsBelow term_cmp i.term (map (λ (j : Inst). j.term) js)
    below_all_of [] k up = tt
    below_all_of (j ∷ js) k up =
        let less = is_less_back (term_cmp i.term j.term) k in
        both _ _ (is_less _ less) (below_along term_cmp j.term i.term (λ u low. term_total.trans i.term j.term u less low) (map (λ (j : Inst). j.term) js) (head_below term_cmp j.term _ up))

-- the instances of a node whose trees stand in the table
module _ (ts : List Tree) (ps : List (Term × ℕ)) where
  named_terms : (ps : List (Term × ℕ)) → map (λ (i : Inst). i.term) (map (inst_at ts) ps) ≡ map (λ p. p.0) ps
  named_terms [] = refl
  named_terms (p ∷ ps) = ap (λ us. p.0 ∷ us) (named_terms ps)

  formed_terms : (ps : List (Term × ℕ)) → are_formed_insts (insts_of (map (inst_at ts) ps)) ≡ true → list_all (λ p. is_formed_term p.0) ps ≡ true
  formed_terms [] h = refl
  formed_terms (p ∷ ps) h =
      let parts = and_parts (is_formed_term p.0 && is_formed_exp (tree_at ts p.1)) (are_formed_insts (insts_of (map (inst_at ts) ps))) h in
      both_true (and_parts (is_formed_term p.0) (is_formed_exp (tree_at ts p.1)) parts.0).0 (formed_terms ps parts.1)

pub weak_node : (ts : List Tree) (f : Formula) (is : List Inst) (ps : List (Term × ℕ)) → IsProper (weak f (insts_of is)) → list_all (λ p. nat_lt p.1 (length ts)) ps ≡ true
    → map (inst_at ts) ps ≡ is → IsNodeOf ts (weak f (insts_of is)) (Weak f ps)
weak_node ts f is ps proper early same =
    let built = and_parts (is_quantified f) (are_built f (insts_of is)) proper.built in
    let formed = and_parts (is_formed f) (are_formed_insts (insts_of is)) proper.formed in
    let up : IsRising term_cmp (map (λ (i : Inst). i.term) (map (inst_at ts) ps)) = subst (λ js. IsRising term_cmp (map (λ (i : Inst). i.term) js)) (sym same) (terms_rise f is built.1) in
    record {
      earlier = list_all-map (λ n. nat_lt n (length ts)) (λ (p : Term × ℕ). p.1) ps ∙ early;
      shape = built.0;
      formed = both_true formed.0 (formed_terms ts ps ps (subst (λ js. are_formed_insts (insts_of js) ≡ true) (sym same) formed.1));
      rising = subst (IsRising term_cmp) (named_terms ts ps ps) up;
      tree = ap (λ js. weak f (insts_of js)) (sorted_rising term_cmp (λ (i : Inst). i.term) (map (inst_at ts) ps) up ∙ same);
    }

-- the node of a rightly built tree that can stand on a side is without fault
pub no_fault : (ts : List Tree) (e : Tree) (n : ExpNode) → IsNodeOf ts e n → IsProper e → somewhere e ≡ true → node_fault ts n ≡ None
no_fault ts e n node proper stand =
    ap (λ b. if b then (if has_shape n then tree_fault (tree_over ts n) else Some Shape) else Some Reference) node.earlier
    ∙ ap (λ b. if b then tree_fault (tree_over ts n) else Some Shape) node.shape ∙ ap tree_fault node.tree
    ∙ ap (λ b. if b then (if somewhere e then None else Some Polarity) else Some Instance) proper.built ∙ ap (λ b. if b then None else Some Polarity) stand

pub entered : (ts old new : List Tree) (e d : Tree) → ts ≡ with_each old (below e) → d ≡ e → new ≡ insert_key same_tree ts d → new ≡ with_each old (subtrees e)
entered ts old new e d ts_is same new_is = new_is ∙ (λ k. insert_key same_tree (ts_is k) (same k)) ∙ sym (subtrees_last old e)

-- one more instance
subtrees_push : (is : List Inst) (i : Inst) → subtrees_in (insts_of (is ++ i ∷ [])) ≡ subtrees_in (insts_of is) ++ subtrees i.child
subtrees_push [] i = append-nil (subtrees i.child)
subtrees_push (j ∷ is) i = ap (λ xs. subtrees j.child ++ xs) (subtrees_push is i) ∙ sym (append_assoc (subtrees j.child) (subtrees_in (insts_of is)) (subtrees i.child))

longer_insts : (is : List Inst) (k : ℕ) (i : Inst) → k < length is → i ≡ get_or is k i → take (k + 1) is ≡ take k is ++ i ∷ []
longer_insts is k i within it = take_more is k i within ∙ ap (λ (j : Inst). take k is ++ j ∷ []) (sym it)

pub insts_next : (is : List Inst) (k : ℕ) (i : Inst) (old mid new : List Tree) → k < length is → i ≡ get_or is k i
    → mid ≡ with_each old (subtrees_in (insts_of (take k is))) → new ≡ with_each mid (subtrees i.child) → new ≡ with_each old (subtrees_in (insts_of (take (k + 1) is)))
insts_next is k i old mid new within it far here =
    here ∙ ap (λ xs. with_each xs (subtrees i.child)) far ∙ sym (all-append same_tree (same_by_decides coded_exp) old (subtrees_in (insts_of (take k is))) (subtrees i.child))
    ∙ ap (with_each old) (sym (ap (λ js. subtrees_in (insts_of js)) (longer_insts is k i within it) ∙ subtrees_push (take k is) i))

still_earlier : (ts us : List Tree) (ps : List (Term × ℕ)) → length ts ≤ length us → list_all (λ p. nat_lt p.1 (length ts)) ps ≡ true → list_all (λ p. nat_lt p.1 (length us)) ps ≡ true
still_earlier ts us [] few h = refl
still_earlier ts us (p ∷ ps) few h =
    let parts = and_parts (nat_lt p.1 (length ts)) (list_all (λ q. nat_lt q.1 (length ts)) ps) h in
    let low = lower p.1 (length ts) parts.0 in
    both_true (below_test p.1 (length us) (omega arith)) (still_earlier ts us ps few parts.1)

pub earlier_next : (mid new : List Tree) (i : Inst) (ps qs : List (Term × ℕ)) (t : Term) (place : ℕ) → list_all (λ p. nat_lt p.1 (length mid)) ps ≡ true
    → new ≡ with_each mid (subtrees i.child) → slice_get new place ≡ Some i.child → qs ≡ ps ++ (t, place) ∷ [] → list_all (λ p. nat_lt p.1 (length new)) qs ≡ true
earlier_next mid new i ps qs t place early new_is at qs_is =
    let more = grows same_tree (same_by_decides coded_exp) mid (subtrees i.child) in
    let few : length mid ≤ length new = let long = ap length (new_is ∙ more.1) in let sum = length-append mid more.0 in omega (arith, long, sum) in
    ap (list_all (λ p. nat_lt p.1 (length new))) qs_is ∙ list_all-append (λ p. nat_lt p.1 (length new)) ps ((t, place) ∷ [])
    ∙ both_true (still_earlier mid new ps few early) (both_true (within new place i.child at) refl)

pub placed_next : (is : List Inst) (k : ℕ) (i : Inst) (mid new : List Tree) (ps qs : List (Term × ℕ)) (t : Term) (place : ℕ) → k < length is → i ≡ get_or is k i
    → list_all (λ p. nat_lt p.1 (length mid)) ps ≡ true → map (inst_at mid) ps ≡ take k is → new ≡ with_each mid (subtrees i.child) → slice_get new place ≡ Some i.child → t ≡ i.term
    → qs ≡ ps ++ (t, place) ∷ [] → map (inst_at new) qs ≡ take (k + 1) is
placed_next is k i mid new ps qs t place within it early so_far new_is at term qs_is =
    let more = grows same_tree (same_by_decides coded_exp) mid (subtrees i.child) in
    let kept : map (inst_at new) ps ≡ take k is = ap (λ ts. map (inst_at ts) ps) (new_is ∙ more.1) ∙ insts_longer mid more.0 ps early ∙ so_far in
    let last : inst_at new (t, place) ≡ i = λ j. record { term = term j; child = there new place i.child at j } in
    ap (map (inst_at new)) qs_is ∙ map_push (inst_at new) ps (t, place) ∙ (λ j. kept j ++ last j ∷ []) ∙ sym (longer_insts is k i within it)
