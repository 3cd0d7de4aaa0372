-- Lists of distinct trees to which trees are appended.
use Rattle.std.proofs.Common.{◌≡◌, ℕ, zero, suc, Bool, true, false, ◌||◌, List, [], ◌∷◌, ◌++◌, cond, refl, sym, ap, ◌∙◌, subst, inl, inr}
use Rattle.std.specs.Prelude.{Some, slice_get}
use Rattle.std.specs.List.{list_any}
use Rattle.proof_trees.specs.Trees.{Tree, node, Trees, none, more, below}
use Rattle.step_laws.specs.Subtrees.{same_tree, subtrees, subtrees_all, appended, appended_each}
use Rattle.proof_steps.specs.Listed.{IsIn, AllIn, AreDistinct, IsClosed}
use Rattle.step_laws.proofs.SameTrees.{equal_of, same_itself}
use Rattle.proof_steps.proofs.Standing.{some_same, get_cases, all_in_left}

or_right : (a b : Bool) → b ≡ true → (a || b) ≡ true
or_right true b h = refl
or_right false b h = h

-- the test finds a tree that stands in the list, and no other
pub any_of : (xs : List Tree) (t : Tree) (i : ℕ) → slice_get xs i ≡ Some t → list_any (same_tree t) xs ≡ true
any_of [] t i h = cc
any_of (x ∷ xs) t zero h =
    let yes : same_tree t x ≡ true = subst (λ (u : Tree). same_tree t u ≡ true) (sym (some_same x t h)) (same_itself t) in
    ap (λ b. b || list_any (same_tree t) xs) yes
any_of (x ∷ xs) t (suc i) h = or_right (same_tree t x) (list_any (same_tree t) xs) (any_of xs t i h)

none_of : (xs : List Tree) (t : Tree) → (IsIn xs t → ⊥) → list_any (same_tree t) xs ≡ false
none_of [] t h = refl
none_of (x ∷ xs) t h = by_test (same_tree t x) refl (none_of xs t (λ there. h (suc there.0, there.1)))
  where
    by_test : (b : Bool) → same_tree t x ≡ b → list_any (same_tree t) xs ≡ false → list_any (same_tree t) (x ∷ xs) ≡ false
    by_test true is later = absurd (h (0, ap Some (sym (equal_of t x is))))
    by_test false is later = ap (λ b. b || list_any (same_tree t) xs) is ∙ later

pub appended_known : (xs : List Tree) (t : Tree) → IsIn xs t → appended xs t ≡ xs
appended_known xs t h = ap (λ b. cond b xs (xs ++ t ∷ [])) (any_of xs t h.0 h.1)

pub appended_new : (xs : List Tree) (t : Tree) → (IsIn xs t → ⊥) → appended xs t ≡ xs ++ t ∷ []
appended_new xs t h = ap (λ b. cond b xs (xs ++ t ∷ [])) (none_of xs t h)

pub each-append : (xs ts us : List Tree) → appended_each xs (ts ++ us) ≡ appended_each (appended_each xs ts) us
each-append xs [] us = refl
each-append xs (t ∷ ts) us = each-append (appended xs t) ts us

-- a tree whose subtrees stand in the list changes nothing
mutual
  pub subtrees_known : (xs : List Tree) → IsClosed xs → (t : Tree) → IsIn xs t → appended_each xs (subtrees t) ≡ xs
  subtrees_known xs closed (node r s ts) h =
      each-append xs (subtrees_all ts) (node r s ts ∷ [])
      ∙ ap (λ ys. appended ys (node r s ts)) (all_known xs closed ts (closed (node r s ts) h))
      ∙ appended_known xs (node r s ts) h

  pub all_known : (xs : List Tree) → IsClosed xs → (ts : Trees) → AllIn xs ts → appended_each xs (subtrees_all ts) ≡ xs
  all_known xs closed none h = refl
  all_known xs closed (more t ts) h =
      each-append xs (subtrees t) (subtrees_all ts)
      ∙ ap (λ ys. appended_each ys (subtrees_all ts)) (subtrees_known xs closed t h.0)
      ∙ all_known xs closed ts h.1

-- the subtrees of a tree are those of its premises and then itself
pub subtrees_root : (xs : List Tree) (t : Tree) → appended_each xs (subtrees t) ≡ appended (appended_each xs (subtrees_all (below t))) t
subtrees_root xs (node r s ts) = each-append xs (subtrees_all ts) (node r s ts ∷ [])

-- one more tree, which stands nowhere yet and whose premises' trees do
pub distinct_more : (xs : List Tree) (t : Tree) → AreDistinct xs → (IsIn xs t → ⊥) → AreDistinct (xs ++ t ∷ [])
distinct_more xs t distinct new i j u at_i at_j = elim (get_cases xs t i u at_i) [
  | inl old_i ↦ elim (get_cases xs t j u at_j) [
    | inl old_j ↦ distinct i j u old_i old_j
    | inr new_j ↦ absurd (new (i, old_i ∙ ap Some (sym new_j.1)))
  ]
  | inr new_i ↦ elim (get_cases xs t j u at_j) [
    | inl old_j ↦ absurd (new (j, old_j ∙ ap Some (sym new_i.1)))
    | inr new_j ↦ new_i.0 ∙ sym new_j.0
  ]
]

pub closed_more : (xs : List Tree) (t : Tree) → IsClosed xs → AllIn xs (below t) → IsClosed (xs ++ t ∷ [])
closed_more xs t closed premises u there = elim (get_cases xs t there.0 u there.1) [
  | inl old ↦ all_in_left xs (t ∷ []) (below u) (closed u (there.0, old))
  | inr new ↦ subst (λ (v : Tree). AllIn (xs ++ t ∷ []) (below v)) new.1 (all_in_left xs (t ∷ []) (below t) premises)
]
