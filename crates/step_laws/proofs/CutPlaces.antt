-- Whether a tree has a cut, read off the list of its steps.
use Rattle.std.proofs.Common.{◌≡◌, ◌↔◌, ℕ, ◌+◌, suc, Bool, true, false, ◌||◌, ◌&&◌, List, [], ◌∷◌, ◌++◌, map, length, cond, refl, sym, ap, ◌∙◌, subst, arith}
use Rattle.std.specs.Prelude.{Option, Some, None, IsNone, nat_lt, not}
use Rattle.std.specs.List.{list_any, position, position_or_len}
use Rattle.std.proofs.lemmas.Bool.Decides.{nat_tests}
use Rattle.std.proofs.lemmas.List.Folds.{list_any-append}
use Rattle.proof_trees.specs.Trees.{Tree, node, Trees, none, more, rule_of, is_cut, cut_free, cut_free_all, IsCutFree}
use Rattle.step_laws.specs.Subtrees.{same_tree, subtrees, subtrees_all, appended, appended_each, distinct_subtrees}
use Rattle.step_laws.specs.Places.{step_in, steps_of, is_cut_step}
use Rattle.step_laws.proofs.SameTrees.{equal_of}

or_assoc : (a b c : Bool) → ((a || b) || c) ≡ (a || (b || c))
or_assoc true b c = refl
or_assoc false b c = refl

or-false : (a : Bool) → (a || false) ≡ a
or-false true = refl
or-false false = refl

or_twice : (a b : Bool) → ((a || b) || a) ≡ (a || b)
or_twice true b = refl
or_twice false b = or-false b

or_keeps : (a b c : Bool) → (b || c) ≡ b → ((a || b) || c) ≡ (a || b)
or_keeps true b c h = refl
or_keeps false b c h = h

not_and : (a b : Bool) → (not b || (a || false)) ≡ not (not a && b)
not_and true true = refl
not_and true false = refl
not_and false true = refl
not_and false false = refl

not_both : (a b : Bool) → (not a || not b) ≡ not (a && b)
not_both true b = refl
not_both false b = refl

module _ (q : Tree → Bool) where
  -- a tree that stands in a list adds nothing
  known_any : (xs : List Tree) (t : Tree) → list_any (same_tree t) xs ≡ true → (list_any q xs || q t) ≡ list_any q xs
  known_any [] t h = cc
  known_any (x ∷ xs) t h = by_test (same_tree t x) refl h (known_any xs t)
    where
      by_test : (b : Bool) → same_tree t x ≡ b → (same_tree t x || list_any (same_tree t) xs) ≡ true → (list_any (same_tree t) xs ≡ true → (list_any q xs || q t) ≡ list_any q xs)
          → ((q x || list_any q xs) || q t) ≡ (q x || list_any q xs)
      by_test true is h later = ap (λ (u : Tree). (q x || list_any q xs) || q u) (equal_of t x is) ∙ or_twice (q x) (list_any q xs)
      by_test false is h later = or_keeps (q x) (list_any q xs) (q t) (later (sym (ap (λ b. b || list_any (same_tree t) xs) is) ∙ h))

  any_appended : (xs : List Tree) (t : Tree) → list_any q (appended xs t) ≡ (list_any q xs || q t)
  any_appended xs t = by_test (list_any (same_tree t) xs) refl
    where
      by_test : (b : Bool) → list_any (same_tree t) xs ≡ b → list_any q (cond b xs (xs ++ t ∷ [])) ≡ (list_any q xs || q t)
      by_test true is = sym (known_any xs t is)
      by_test false is = list_any-append q xs (t ∷ []) ∙ ap (λ b. list_any q xs || b) (or-false (q t))

  any_each : (xs ts : List Tree) → list_any q (appended_each xs ts) ≡ (list_any q xs || list_any q ts)
  any_each xs [] = sym (or-false (list_any q xs))
  any_each xs (t ∷ ts) =
      any_each (appended xs t) ts ∙ ap (λ b. b || list_any q ts) (any_appended xs t) ∙ or_assoc (list_any q xs) (q t) (list_any q ts)

abbrev is_cut_tree : Tree → Bool
is_cut_tree t = is_cut (rule_of t)

mutual
  any_subtrees : (t : Tree) → list_any is_cut_tree (subtrees t) ≡ not (cut_free t)
  any_subtrees (node r s ts) =
      list_any-append is_cut_tree (subtrees_all ts) (node r s ts ∷ [])
      ∙ ap (λ b. b || (is_cut r || false)) (any_subtrees_all ts) ∙ not_and (is_cut r) (cut_free_all ts)

  any_subtrees_all : (ts : Trees) → list_any is_cut_tree (subtrees_all ts) ≡ not (cut_free_all ts)
  any_subtrees_all none = refl
  any_subtrees_all (more t ts) =
      list_any-append is_cut_tree (subtrees t) (subtrees_all ts)
      ∙ (λ i. any_subtrees t i || any_subtrees_all ts i) ∙ not_both (cut_free t) (cut_free_all ts)

any_map : {X Y : Type 0} (p : Y → Bool) (f : X → Y) (xs : List X) → list_any p (map f xs) ≡ list_any (λ x. p (f x)) xs
any_map p f [] = refl
any_map p f (x ∷ xs) = ap (λ b. p (f x) || b) (any_map p f xs)

-- there is a first element that passes exactly where one passes
place_test : {X : Type 0} (p : X → Bool) (xs : List X) → nat_lt (position_or_len p xs) (length xs) ≡ list_any p xs
place_test p [] = refl
place_test p (x ∷ xs) = by_test (p x) (place_test p xs)
  where
    zero_below : (n : ℕ) → nat_lt 0 (suc n) ≡ true
    zero_below n = grind (arith, nat_tests)

    one_more : (m n : ℕ) → nat_lt (1 + m) (suc n) ≡ nat_lt m n
    one_more m n = grind (arith, nat_tests)

    by_test : (b : Bool) → nat_lt (position_or_len p xs) (length xs) ≡ list_any p xs
        → nat_lt (cond (not b) (1 + position_or_len p xs) 0) (suc (length xs)) ≡ (b || list_any p xs)
    by_test true later = zero_below (length xs)
    by_test false later = one_more (position_or_len p xs) (length xs) ∙ later

any_cut : (t : Tree) → list_any is_cut_step (steps_of t) ≡ not (cut_free t)
any_cut t = any_map is_cut_step (step_in (distinct_subtrees t)) (distinct_subtrees t) ∙ any_each is_cut_tree [] (subtrees t) ∙ any_subtrees t

none_where : (b free : Bool) (n : ℕ) → b ≡ not free → IsNone (cond b (Some n) None) ↔ (free ≡ true)
none_where true true n h = cc
none_where true false n h = (λ none. cc, λ free_is. cc)
none_where false true n h = (λ none. refl, λ free_is. refl)
none_where false false n h = cc

-- there is no first cut exactly where there is no cut
pub no_first_cut : (t : Tree) (o : Option ℕ) → o ≡ position is_cut_step (steps_of t) → IsNone o ↔ IsCutFree t
no_first_cut t o is =
    subst (λ (x : Option ℕ). IsNone x ↔ IsCutFree t) (sym is)
    (none_where (nat_lt (position_or_len is_cut_step (steps_of t)) (length (steps_of t))) (cut_free t) (position_or_len is_cut_step (steps_of t)) (place_test is_cut_step (steps_of t) ∙ any_cut t))
