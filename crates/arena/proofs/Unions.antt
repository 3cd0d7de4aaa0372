-- Unions of sets of variables of which one has all.
use Rattle.std.proofs.Common.{◌≡◌, ℕ, Bool, true, false, ◌||◌, List, refl, sym, ap, ◌∙◌}
use Rattle.std.specs.Prelude.{Some}
use Rattle.fol.specs.Order.{var_cmp}
use Rattle.fol.specs.OrderLaws.{var_total}
use Rattle.fol.proofs.OrderTies.{var_ties}
use Rattle.finite.specs.Finite as set
use Rattle.finite.proofs.Finite.{has-empty, same_members, members_of_subset}
use Rattle.free_variables.specs.Sets.{VarSet}
use Rattle.free_variables.specs.Union.{union_of}
use Rattle.arena_cells.specs.Items.{Item, variables}
use Rattle.arena_cells.specs.Standing.{Extends, HasVariables, variables_at, AreVariablesAt}
use Rattle.arena_cells.proofs.Staying.{are_variables}
use Rattle.arena.proofs.Members.{has-union}

or_same : (b : Bool) → (b || b) ≡ b
or_same true = refl
or_same false = refl

or_false : (b : Bool) → (b || false) ≡ b
or_false true = refl
or_false false = refl

union_same : (s : VarSet) → union_of s s ≡ s
union_same s = same_members var_total var_ties _ _ (λ v. has-union var_total s s v ∙ or_same (set.has s v))

union_none : (s t : VarSet) → t ≡ set.empty → union_of s t ≡ s
union_none s t e =
    same_members var_total var_ties _ _ (λ v.
    has-union var_total s t v ∙ ap (λ u. set.has s v || set.has u v) e ∙ ap (λ b. set.has s v || b) (has-empty var_cmp v) ∙ or_false (set.has s v))

given_left : (b c : Bool) → (c ≡ true → b ≡ true) → (b || c) ≡ b
given_left true c h = refl
given_left false true h = sym (h refl)
given_left false false h = refl

given_right : (b c : Bool) → (b ≡ true → c ≡ true) → (b || c) ≡ c
given_right true c h = sym (h refl)
given_right false c h = refl

-- the union of a set and one that is within it
union_within : (s t : VarSet) → set.subset t s ≡ true → union_of s t ≡ s
union_within s t h = same_members var_total var_ties _ _ (λ v. has-union var_total s t v ∙ given_left (set.has s v) (set.has t v) (members_of_subset var_total t s h v))

within_union : (s t : VarSet) → set.subset s t ≡ true → union_of s t ≡ t
within_union s t h = same_members var_total var_ties _ _ (λ v. has-union var_total s t v ∙ given_right (set.has s v) (set.has t v) (members_of_subset var_total s t h v))

module _ (a : List Item) where
  pub kept_both : (m n : ℕ) → AreVariablesAt a m → m ≡ n → HasVariables a m (union_of (variables_at a m) (variables_at a n))
  kept_both m n h e = h ∙ ap (λ s. Some (variables s)) (sym (union_same (variables_at a m)) ∙ ap (λ (k : ℕ). union_of (variables_at a m) (variables_at a k)) e)

  pub kept_first : (m n : ℕ) (b : Bool) → AreVariablesAt a m → b ≡ set.subset (variables_at a n) (variables_at a m) → b ≡ true → HasVariables a m (union_of (variables_at a m) (variables_at a n))
  kept_first m n b h is holds = h ∙ ap (λ s. Some (variables s)) (sym (union_within _ _ (sym is ∙ holds)))

  pub kept_second : (m n : ℕ) (b : Bool) → AreVariablesAt a n → b ≡ set.subset (variables_at a m) (variables_at a n) → b ≡ true → HasVariables a n (union_of (variables_at a m) (variables_at a n))
  kept_second m n b h is holds = h ∙ ap (λ s. Some (variables s)) (sym (within_union _ _ (sym is ∙ holds)))

-- the union, where the second set was found later
pub with_more : (a b c : List Item) (m k n : ℕ) (t : VarSet) → Extends a b → AreVariablesAt a m → HasVariables b k t → HasVariables c n (union_of (variables_at b m) (variables_at b k)) → HasVariables c n (union_of (variables_at a m) t)
with_more a b c m k n t grown h more both =
    both ∙ λ i. Some (variables (union_of (are_variables b m _ (grown m _ h) i) (are_variables b k t more i)))

-- the union, where the second set was found later and has nothing
pub with_none : (a b : List Item) (m k : ℕ) (t : VarSet) → Extends a b → AreVariablesAt a m → HasVariables b k t → HasVariables b k set.empty → HasVariables b m (union_of (variables_at a m) t)
with_none a b m k t grown h more nothing =
    let none : t ≡ set.empty = sym (are_variables b k t more) ∙ are_variables b k set.empty nothing in
    grown m _ h ∙ ap (λ s. Some (variables s)) (sym (union_none (variables_at a m) t none))
