-- The steps of a tree stand for its distinct subtrees, and the last for the tree.
use Rattle.std.proofs.Common.{◌≡◌, ℕ, suc, ◌+◌, ◌-◌, ◌≤◌, Bool, true, false, ◌||◌, List, [], ◌∷◌, ◌++◌, map, take, length, cond, refl, sym, ap, ◌∙◌, subst, inl, inr, arith, append_assoc, append-nil, length-append}
use Rattle.std.specs.Prelude.{Option, Some, slice_get, Result, Ok, Err, IfOk}
use Rattle.std.specs.List.{list_any, filter_map, cons_option}
use Rattle.std.proofs.lemmas.List.{take_at, take-append-le, length-map}
use Rattle.std.proofs.lemmas.Option.{slice_get_within}
use Rattle.lk_rules.specs.declared.rule.Step.{Step}
use Rattle.proof_trees.specs.Trees.{Tree, node, Trees, none, more, rule_of, concl, below}
use Rattle.proof_trees.specs.TreeLists.{trees, nodes, nodes_all}
use Rattle.step_laws.specs.StepTrees.{tree_over, trees_after, trees_of_steps, IsTreeOf}
use Rattle.step_laws.specs.Subtrees.{same_tree, subtrees, subtrees_all, appended, appended_each, distinct_subtrees}
use Rattle.step_laws.specs.Places.{place, places, step_in, steps_of}
use Rattle.proof_steps.specs.Listed.{IsIn, AllIn, AreDistinct}
use Rattle.step_laws.proofs.SameTrees.{equal_of}
use Rattle.proof_steps.proofs.Standing.{get_left, get_last, get_cases, in_left, place_there, place_left}
use Rattle.proof_steps.proofs.Appending.{any_of, each-append, subtrees_root, distinct_more}
use Rattle.proof_steps.proofs.Visits.{each_prefix}

-- what the test finds stands in the list
any_back : (xs : List Tree) (t : Tree) → list_any (same_tree t) xs ≡ true → IsIn xs t
any_back [] t h = cc
any_back (x ∷ xs) t h = by_test (same_tree t x) refl h (any_back xs t)
  where
    by_test : (b : Bool) → same_tree t x ≡ b → (same_tree t x || list_any (same_tree t) xs) ≡ true → (list_any (same_tree t) xs ≡ true → IsIn xs t) → IsIn (x ∷ xs) t
    by_test true is h later = (0, ap Some (sym (equal_of t x is)))
    by_test false is h later =
        let there = later (sym (ap (λ b. b || list_any (same_tree t) xs) is) ∙ h) in (suc there.0, there.1)

-- what is so of a list in which the tree stands, and of one with the tree at its end, is so of the list to which it is appended
pub by_appended : (P : List Tree → Type 0) (xs : List Tree) (t : Tree) → (IsIn xs t → P xs) → ((IsIn xs t → ⊥) → P (xs ++ t ∷ [])) → P (appended xs t)
by_appended P xs t known new = by_test (list_any (same_tree t) xs) refl
  where
    by_test : (b : Bool) → list_any (same_tree t) xs ≡ b → P (cond b xs (xs ++ t ∷ []))
    by_test true is = known (any_back xs t is)
    by_test false is = new (λ there. let found = any_of xs t there.0 there.1 in absurd (cc))

in_appended : (xs : List Tree) (t : Tree) → IsIn (appended xs t) t
in_appended xs t = by_appended (λ ys. IsIn ys t) xs t (λ there. there) (λ new. (length xs, get_last xs t))

in_each : (xs ts : List Tree) (u : Tree) → IsIn xs u → IsIn (appended_each xs ts) u
in_each xs ts u there = let rest = each_prefix xs ts in subst (λ (ys : List Tree). IsIn ys u) rest.1 (in_left xs rest.0 u there)

-- a tree is listed with its subtrees
in_subtrees : (xs : List Tree) (t : Tree) → IsIn (appended_each xs (subtrees t)) t
in_subtrees xs t = subst (λ (ys : List Tree). IsIn ys t) (sym (subtrees_root xs t)) (in_appended (appended_each xs (subtrees_all (below t))) t)

all_in_subtrees : (xs : List Tree) (ts : Trees) → AllIn (appended_each xs (subtrees_all ts)) ts
all_in_subtrees xs none = tt
all_in_subtrees xs (more t ts) =
    let both = each-append xs (subtrees t) (subtrees_all ts) in
    subst (λ (ys : List Tree). AllIn ys (more t ts)) (sym both)
    (in_each (appended_each xs (subtrees t)) (subtrees_all ts) t (in_subtrees xs t), all_in_subtrees (appended_each xs (subtrees t)) ts)

-- before each tree stand those of its premises
abbrev pub IsOrdered : List Tree → Type 0
IsOrdered xs = (i : ℕ) (t : Tree) → slice_get xs i ≡ Some t → AllIn (take i xs) (below t)

ordered_more : (xs : List Tree) (t : Tree) → IsOrdered xs → AllIn xs (below t) → IsOrdered (xs ++ t ∷ [])
ordered_more xs t ordered premises i u there = elim (get_cases xs t i u there) [
  | inl old ↦
      let within : i ≤ length xs = let inside = slice_get_within xs i u old in omega arith in
      subst (λ (ys : List Tree). AllIn ys (below u)) (sym (take-append-le i xs (t ∷ []) within)) (ordered i u old)
  | inr last ↦
      subst (λ (ys : List Tree). AllIn ys (below u)) (sym (take_at xs (t ∷ []) i (sym last.0))) (subst (λ (v : Tree). AllIn xs (below v)) last.1 premises)
]

ordered_appended : (xs : List Tree) (t : Tree) → IsOrdered xs → AllIn xs (below t) → IsOrdered (appended xs t)
ordered_appended xs t ordered premises = by_appended IsOrdered xs t (λ there. ordered) (λ new. ordered_more xs t ordered premises)

mutual
  pub ordered_subtrees : (xs : List Tree) (t : Tree) → IsOrdered xs → IsOrdered (appended_each xs (subtrees t))
  ordered_subtrees xs (node r s ts) ordered =
      subst IsOrdered (sym (subtrees_root xs (node r s ts)))
      (ordered_appended (appended_each xs (subtrees_all ts)) (node r s ts) (ordered_all xs ts ordered) (all_in_subtrees xs ts))

  ordered_all : (xs : List Tree) (ts : Trees) → IsOrdered xs → IsOrdered (appended_each xs (subtrees_all ts))
  ordered_all xs none ordered = ordered
  ordered_all xs (more t ts) ordered =
      subst IsOrdered (sym (each-append xs (subtrees t) (subtrees_all ts)))
      (ordered_all (appended_each xs (subtrees t)) ts (ordered_subtrees xs t ordered))

-- no tree of such a list stands in it twice
distinct_each : (xs ts : List Tree) → AreDistinct xs → AreDistinct (appended_each xs ts)
distinct_each xs [] distinct = distinct
distinct_each xs (t ∷ ts) distinct =
    distinct_each (appended xs t) ts (by_appended AreDistinct xs t (λ there. distinct) (λ new. distinct_more xs t distinct new))

-- the trees at the places of some trees are these
trees_picked : (done rest : List Tree) (us : Trees) → AllIn done us → trees (filter_map (slice_get done) (places (done ++ rest) us)) ≡ us
trees_picked done rest none h = refl
trees_picked done rest (more u us) h =
    let found : slice_get done (place (done ++ rest) u) ≡ Some u = ap (slice_get done) (place_left done rest u h.0.0 h.0.1) ∙ place_there done u h.0.0 h.0.1 in
    ap (λ (o : Option Tree). trees (cons_option o (filter_map (slice_get done) (places (done ++ rest) us)))) found
    ∙ ap (more u) (trees_picked done rest us h.1)

tree_parts : (t : Tree) → node (rule_of t) (concl t) (below t) ≡ t
tree_parts (node r s ts) = refl

-- the steps of a list of trees in this order stand for the trees
steps_after : (xs done rest : List Tree) → IsOrdered xs → done ++ rest ≡ xs → trees_after done (map (step_in xs) rest) ≡ xs
steps_after xs done [] ordered same = sym (append-nil done) ∙ same
steps_after xs done (t ∷ rest) ordered same =
    let here : slice_get xs (length done) ≡ Some t =
    ap (λ (ys : List Tree). slice_get ys (length done)) (sym same ∙ sym (append_assoc done (t ∷ []) rest)) ∙ get_left (done ++ t ∷ []) rest (length done) t (get_last done t) in
    let front : take (length done) xs ≡ done = ap (take (length done)) (sym same) ∙ take_at done (t ∷ rest) (length done) refl in
    let premises : AllIn done (below t) = subst (λ (ys : List Tree). AllIn ys (below t)) front (ordered (length done) t here) in
    let picked : trees (filter_map (slice_get done) (places xs (below t))) ≡ below t =
    ap (λ (ys : List Tree). trees (filter_map (slice_get done) (places ys (below t)))) (sym same) ∙ trees_picked done (t ∷ rest) (below t) premises in
    let tree : tree_over done (step_in xs t) ≡ t = ap (node (rule_of t) (concl t)) picked ∙ tree_parts t in
    ap (λ (u : Tree). trees_after (done ++ u ∷ []) (map (step_in xs) rest)) tree
    ∙ steps_after xs (done ++ t ∷ []) rest ordered (append_assoc done (t ∷ []) rest ∙ same)

pub trees_back : (t : Tree) → trees_of_steps (steps_of t) ≡ distinct_subtrees t
trees_back t = steps_after (distinct_subtrees t) [] (distinct_subtrees t) (ordered_subtrees [] t (λ i u there. cc)) refl

-- no tree of a list has more nodes
abbrev AreSmall : ℕ → List Tree → Type 0
AreSmall n xs = (i : ℕ) (u : Tree) → slice_get xs i ≡ Some u → nodes u ≤ n

small_appended : (n : ℕ) (xs : List Tree) (t : Tree) → AreSmall n xs → nodes t ≤ n → AreSmall n (appended xs t)
small_appended n xs t small fits =
    by_appended (AreSmall n) xs t (λ there. small) (λ new i u there. elim (get_cases xs t i u there) [
      | inl old ↦ small i u old
      | inr last ↦ subst (λ (v : Tree). nodes v ≤ n) last.1 fits
    ])

mutual
  small_subtrees : (n : ℕ) (xs : List Tree) (t : Tree) → AreSmall n xs → nodes t ≤ n → AreSmall n (appended_each xs (subtrees t))
  small_subtrees n xs (node r s ts) small fits =
      let fewer : nodes_all ts ≤ n = omega arith in
      subst (AreSmall n) (sym (subtrees_root xs (node r s ts)))
      (small_appended n (appended_each xs (subtrees_all ts)) (node r s ts) (small_all n xs ts small fewer) fits)

  small_all : (n : ℕ) (xs : List Tree) (ts : Trees) → AreSmall n xs → nodes_all ts ≤ n → AreSmall n (appended_each xs (subtrees_all ts))
  small_all n xs none small fits = small
  small_all n xs (more t ts) small fits =
      let first : nodes t ≤ n = omega arith in
      let others : nodes_all ts ≤ n = omega arith in
      subst (AreSmall n) (sym (each-append xs (subtrees t) (subtrees_all ts)))
      (small_all n (appended_each xs (subtrees t)) ts (small_subtrees n xs t small first) others)

nodes_root : (t : Tree) → nodes t ≡ nodes_all (below t) + 1
nodes_root (node r s ts) = omega arith

-- the tree stands last, since it is none of the smaller ones
root_last : (t : Tree) → slice_get (distinct_subtrees t) (length (distinct_subtrees t) - 1) ≡ Some t
root_last t =
    let mid = appended_each [] (subtrees_all (below t)) in
    let Ends : List Tree → Type 0 = λ ys. slice_get ys (length ys - 1) ≡ Some t in
    let small = small_all (nodes_all (below t)) [] (below t) (λ i u there. cc) (omega arith) in
    let new : IsIn mid t → ⊥ = λ there. let fits = small there.0 t there.1 in absurd (omega (arith, nodes_root t)) in
    let place : length (mid ++ t ∷ []) - 1 ≡ length mid = omega (arith, length-append mid (t ∷ [])) in
    subst Ends (sym (subtrees_root [] t))
    (by_appended Ends mid t (λ there. absurd (new there)) (λ _. ap (slice_get (mid ++ t ∷ [])) place ∙ get_last mid t))

pub tree_back : (t : Tree) → IsTreeOf (steps_of t) t
tree_back t =
    let many : length (steps_of t) ≡ length (distinct_subtrees t) = length-map (distinct_subtrees t) (step_in (distinct_subtrees t)) in
    ap (λ (n : ℕ). slice_get (trees_of_steps (steps_of t)) (n - 1)) many
    ∙ ap (λ (ys : List Tree). slice_get ys (length (distinct_subtrees t) - 1)) (trees_back t)
    ∙ root_last t

-- what is so of a list is so of what a call answers with it
pub by_items : {X E : Type 0} (f : X → List Step) (P : List Step → Type 0) (r : Result X E) (steps : List Step) → IfOk r (λ x. f x ≡ steps) → P steps → IfOk r (λ x. P (f x))
by_items f P (Ok x) steps same h = subst P (sym same) h
by_items f P (Err e) steps same h = tt
