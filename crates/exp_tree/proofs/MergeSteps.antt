-- One step of the walk over the instances of two lists.
use Rattle.std.proofs.Common.{◌≡◌, ℕ, zero, suc, ◌+◌, ◌<◌, ◌≤◌, ◌⊎◌, inl, inr, List, [], ◌∷◌, ◌++◌, length, get_or, drop, refl, sym, ap, subst, ◌∙◌, add-one, drop-cons, append-nil, arith}
use Rattle.std.proofs.lemmas.List.{drop_all}
use Rattle.std.specs.declared.cmp.Ordering.TheVariants.{Less, Equal, Greater}
use Rattle.fol.specs.Order.{term_cmp}
use Rattle.expansion_laws.specs.Expansions.{Exp as Tree, Insts, none, more}
use Rattle.exp_tree.specs.declared.expansion.Inst.{Inst}
use Rattle.exp_tree.specs.Sizes.{exp_nodes, insts_nodes}
use Rattle.exp_tree.specs.Shown.{insts_of}
use Rattle.exp_tree.specs.Merging.{by_order, among, merged, merged_in, followed}

pub followed_push : (is : List Inst) (i : Inst) (js : Insts) → followed (is ++ i ∷ []) js ≡ followed is (more i.term i.child js)
followed_push [] i js = refl
followed_push (j ∷ is) i js = ap (more j.term j.child) (followed_push is i js)

followed_list : (is js : List Inst) → insts_of (is ++ js) ≡ followed is (insts_of js)
followed_list [] js = refl
followed_list (i ∷ is) js = ap (more i.term i.child) (followed_list is js)

merged-none : (is : Insts) → merged_in is none ≡ is
merged-none none = refl
merged-none (more t e is) = ap (more t e) (merged-none is)

insts_from : (xs : List Inst) (i : ℕ) (x : Inst) → i < length xs → x ≡ get_or xs i x → insts_of (drop i xs) ≡ more x.term x.child (insts_of (drop (i + 1) xs))
insts_from xs i x within is =
    ap insts_of (drop-cons xs i x within) ∙ (λ k. more (is' k).term (is' k).child (insts_of (drop (suc i) xs))) ∙ ap (λ n. more x.term x.child (insts_of (drop n xs))) (sym (add-one i))
  where
    is' : get_or xs i x ≡ x
    is' = sym is

module _ (xs ys : List Inst) (i j : ℕ) (x y : Inst) (here : i < length xs) (there : j < length ys) (p : x ≡ get_or xs i x) (q : y ≡ get_or ys j y) (old new : List Inst) where
  abbrev rest_x : Insts
  rest_x = insts_of (drop (i + 1) xs)

  abbrev rest_y : Insts
  rest_y = insts_of (drop (j + 1) ys)

  abbrev both : Insts
  both = merged_in (insts_of (drop i xs)) (insts_of (drop j ys))

  opened : both ≡ among x.term x.child (merged x.child) (merged_in rest_x) (more y.term y.child rest_y)
  opened = λ k. merged_in (insts_from xs i x here p k) (insts_from ys j y there q k)

  pub step_less : term_cmp x.term y.term ≡ Less → new ≡ old ++ x ∷ [] → followed new (merged_in rest_x (insts_of (drop j ys))) ≡ followed old both
  step_less e pushed =
      (λ k. followed (pushed k) (merged_in rest_x (insts_from ys j y there q k)))
      ∙ followed_push old x (merged_in rest_x (more y.term y.child rest_y))
      ∙ ap (followed old) (sym (opened ∙ ap (λ r. by_order r (more x.term x.child (merged_in rest_x (more y.term y.child rest_y))) (more x.term (merged x.child y.child) (merged_in rest_x rest_y)) (more y.term y.child (among x.term x.child (merged x.child) (merged_in rest_x) rest_y))) e))

  pub step_equal : term_cmp x.term y.term ≡ Equal → (d : Tree) → d ≡ merged x.child y.child → new ≡ old ++ record { term = x.term; child = d } ∷ [] → followed new (merged_in rest_x rest_y) ≡ followed old both
  step_equal e d child pushed =
      ap (λ v. followed v (merged_in rest_x rest_y)) pushed
      ∙ followed_push old (record { term = x.term; child = d }) (merged_in rest_x rest_y)
      ∙ (λ k. followed old (more x.term (child k) (merged_in rest_x rest_y)))
      ∙ ap (followed old) (sym (opened ∙ ap (λ r. by_order r (more x.term x.child (merged_in rest_x (more y.term y.child rest_y))) (more x.term (merged x.child y.child) (merged_in rest_x rest_y)) (more y.term y.child (among x.term x.child (merged x.child) (merged_in rest_x) rest_y))) e))

  pub step_greater : term_cmp x.term y.term ≡ Greater → new ≡ old ++ y ∷ [] → followed new (merged_in (insts_of (drop i xs)) rest_y) ≡ followed old both
  step_greater e pushed =
      (λ k. followed (pushed k) (merged_in (insts_from xs i x here p k) rest_y))
      ∙ followed_push old y (among x.term x.child (merged x.child) (merged_in rest_x) rest_y)
      ∙ ap (followed old) (sym (opened ∙ ap (λ r. by_order r (more x.term x.child (merged_in rest_x (more y.term y.child rest_y))) (more x.term (merged x.child y.child) (merged_in rest_x rest_y)) (more y.term y.child (among x.term x.child (merged x.child) (merged_in rest_x) rest_y))) e))

-- at the end one list is used up
pub all_merged : (xs ys list : List Inst) (i j : ℕ) (whole : Insts) → (length xs ≤ i) ⊎ (length ys ≤ j) → followed list (merged_in (insts_of (drop i xs)) (insts_of (drop j ys))) ≡ whole
    → insts_of ((list ++ drop i xs) ++ drop j ys) ≡ whole
all_merged xs ys list i j whole (inl over) h =
    let none_left : drop i xs ≡ [] = drop_all i xs over in
    ap (λ (l : List Inst). insts_of ((list ++ l) ++ drop j ys)) none_left
    ∙ ap (λ (l : List Inst). insts_of (l ++ drop j ys)) (append-nil list)
    ∙ followed_list list (drop j ys)
    ∙ ap (λ (l : List Inst). followed list (merged_in (insts_of l) (insts_of (drop j ys)))) (sym none_left)
    ∙ h
all_merged xs ys list i j whole (inr over) h =
    let none_left : drop j ys ≡ [] = drop_all j ys over in
    ap (λ (l : List Inst). insts_of ((list ++ drop i xs) ++ l)) none_left
    ∙ ap insts_of (append-nil (list ++ drop i xs))
    ∙ followed_list list (drop i xs)
    ∙ ap (followed list) (sym (merged-none (insts_of (drop i xs))))
    ∙ ap (λ (l : List Inst). followed list (merged_in (insts_of (drop i xs)) (insts_of l))) (sym none_left)
    ∙ h

-- the tree of one instance has no more nodes than those of all
pub nodes_at : (xs : List Inst) (i : ℕ) (x : Inst) → i < length xs → x ≡ get_or xs i x → exp_nodes x.child ≤ insts_nodes (insts_of xs)
nodes_at xs i x within is = subst (λ (u : Inst). exp_nodes u.child ≤ insts_nodes (insts_of xs)) (sym is) (within_all xs i x within)
  where
    within_all : (ys : List Inst) (j : ℕ) (d : Inst) → j < length ys → exp_nodes (get_or ys j d).child ≤ insts_nodes (insts_of ys)
    within_all [] j d h = absurd (omega arith)
    within_all (y ∷ ys) zero d h = omega arith
    within_all (y ∷ ys) (suc j) d h = let rest = within_all ys j d (omega arith) in omega arith
