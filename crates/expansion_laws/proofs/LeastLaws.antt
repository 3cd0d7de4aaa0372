-- The least variable that passes a test is the first in a rising list.
use Rattle.std.proofs.Common.{◌≡◌, Bool, true, false, cond, List, [], ◌∷◌, refl, sym, ap, ◌∙◌}
use Rattle.std.specs.Prelude.{Option, Some, None, nat_lt}
use Rattle.std.specs.List.{list_any, find}
use Rattle.std.specs.Ordering.{eq_by_cmp, ordering_reverse, is_eq}
use Rattle.std.specs.declared.cmp.Ordering.TheVariants.{Less, Equal, Greater}
use Rattle.finite.specs.Finite as set
use Rattle.finite.proofs.Finite.{listing_rises}
use Rattle.finite.proofs.Rising.{tail_rises, head_below, below_along, below_none}
use Rattle.fol.specs.declared.symbols.Var.{Var}
use Rattle.fol.specs.Order.{var_cmp}
use Rattle.fol.specs.OrderLaws.{var_total}
use Rattle.fol.proofs.OrderTies.{var_ties}
use Rattle.lk_rules.specs.declared.sequent.Sequent.{Sequent}
use Rattle.lk_rules.specs.Sequents.{is_free_in_sequent}
use Rattle.lk_rules.proofs.Subsequents.{and_left}
use Rattle.proof_trees.proofs.Booleans.{either}
use Rattle.search_laws.proofs.Tests.{split, clash, fails, not_false}
use Rattle.expansion_laws.specs.Dependency.{Expansion, strongs_of}
use Rattle.expansion_laws.proofs.Lists.{any_of, not-any}
use Rattle.expansion_laws.specs.Cycles.{variables}
use Rattle.expansion_laws.specs.Eigenvariables.{times, is_repeated, is_free_eigenvariable, IsLeast}
use Rattle.expansion_laws.proofs.Times.{self_tied}
use Rattle.expansion_laws.proofs.Conditions.{none_times}
use Rattle.expansion_laws.proofs.CycleLaws.{same_by, among_variables}
use Rattle.expansion_laws.proofs.Found.{found_passes, none_passes}

not_self : (v : Var) → var_cmp v v ≡ Less → ⊥
not_self v e = clash (eq_by_cmp var_cmp v v) (self_tied v) (ap is_eq e)

-- what is below the first of a rising list is no member
absent : (w u : Var) (us : List Var) → set.IsRising var_cmp (u ∷ us) → var_cmp w u ≡ Less → list_any (eq_by_cmp var_cmp w) (u ∷ us) ≡ true → ⊥
absent w u us up less m =
    either (eq_by_cmp var_cmp w u) (list_any (eq_by_cmp var_cmp w) us)
    (λ here. not_self w (ap (var_cmp w) (same_by w u here) ∙ less))
    (λ later. clash (list_any (eq_by_cmp var_cmp w) us) later (below_none var_cmp w us (below_along var_cmp u w (λ z e. var_total.trans w u z less e) us (head_below var_cmp u us up))))
    m

-- what is below the first member that passes fails
earlier_fails : (p : Var → Bool) (us : List Var) → set.IsRising var_cmp us → (v : Var) → find p us ≡ Some v → (w : Var) → list_any (eq_by_cmp var_cmp w) us ≡ true → var_cmp w v ≡ Less → p w ≡ false
earlier_fails p [] up v e w m less = cc
earlier_fails p (u ∷ us) up v e w m less =
    elim (p u) as (λ b. p u ≡ b → cond b (Some u) (find p us) ≡ Some v → p w ≡ false) [
      | true ↦ λ k e. let same : u ≡ v = cc in absurd (absent w u us up (ap (var_cmp w) same ∙ less) m)
      | false ↦ λ k e.
          either (eq_by_cmp var_cmp w u) (list_any (eq_by_cmp var_cmp w) us)
          (λ here. ap p (same_by w u here) ∙ k)
          (λ later. earlier_fails p us (tail_rises var_cmp u us up) v e w later less)
          m
    ] refl e

-- the first member that passes is the least variable that does, where all of them are members
found_least : (p : Var → Bool) (us : List Var) → set.IsRising var_cmp us → ((w : Var) → p w ≡ true → list_any (eq_by_cmp var_cmp w) us ≡ true) → IsLeast p (find p us)
found_least p us up within =
    elim (find p us) as (λ o. find p us ≡ o → IsLeast p o) [
      | None ↦ λ e w. fails (p w) (λ h. clash (list_any p us) (any_of (eq_by_cmp var_cmp) same_by p us w (within w h) h) (none_passes p us e))
      | Some v ↦ λ e. (found_passes p us v e, λ w less. fails (p w) (λ h. earlier_fails p us up v e w (within w h) less))
    ] refl

-- there is one least variable at most
least_unique : (p : Var → Bool) (o q : Option Var) → IsLeast p o → IsLeast p q → o ≡ q
least_unique p None None h k = refl
least_unique p None (Some w) h k = clash (p w) k.0 (h w)
least_unique p (Some v) None h k = clash (p v) h.0 (k v)
least_unique p (Some v) (Some w) h k =
    elim (var_cmp v w) as (λ r. var_cmp v w ≡ r → Some v ≡ Some w) [
      | Less ↦ λ e. clash (p v) h.0 (k.1 v e)
      | Equal ↦ λ e. ap Some (var_ties v w e)
      | Greater ↦ λ e. clash (p w) k.0 (h.1 w (var_total.antisymm w v ∙ ap ordering_reverse e))
    ] refl

module _ (x : Expansion) where
  repeated_within : (w : Var) → is_repeated (strongs_of x) w ≡ true → list_any (eq_by_cmp var_cmp w) (variables x) ≡ true
  repeated_within w h =
      among_variables x w
      ∙ split (list_any (eq_by_cmp var_cmp w) (strongs_of x)) (λ in_it. in_it)
      (λ out.
      let none : times (strongs_of x) w ≡ 0 = none_times w (strongs_of x) (sym (not-any (eq_by_cmp var_cmp w) (strongs_of x)) ∙ not_false (list_any (eq_by_cmp var_cmp w) (strongs_of x)) out) in
      clash (is_repeated (strongs_of x) w) h (ap (nat_lt 1) none))

  -- the least variable of two strong quantifiers
  pub least_repeated : IsLeast (is_repeated (strongs_of x)) (find (is_repeated (strongs_of x)) (variables x))
  least_repeated = found_least (is_repeated (strongs_of x)) (variables x) (listing_rises (set.adds_each (set.empty {R = var_cmp}) (strongs_of x))) repeated_within

  pub repeated_is : (o : Option Var) → IsLeast (is_repeated (strongs_of x)) o → find (is_repeated (strongs_of x)) (variables x) ≡ o
  repeated_is o h = least_unique (is_repeated (strongs_of x)) (find (is_repeated (strongs_of x)) (variables x)) o least_repeated h

  module _ (s : Sequent) where
    -- the least variable of a strong quantifier that is free in the sequent
    pub least_free : IsLeast (is_free_eigenvariable s (strongs_of x)) (find (is_free_eigenvariable s (strongs_of x)) (variables x))
    least_free =
        found_least (is_free_eigenvariable s (strongs_of x)) (variables x) (listing_rises (set.adds_each (set.empty {R = var_cmp}) (strongs_of x)))
        (λ w h. among_variables x w ∙ and_left (list_any (eq_by_cmp var_cmp w) (strongs_of x)) (is_free_in_sequent w s) h)

    pub free_is : (o : Option Var) → IsLeast (is_free_eigenvariable s (strongs_of x)) o → find (is_free_eigenvariable s (strongs_of x)) (variables x) ≡ o
    free_is o h = least_unique (is_free_eigenvariable s (strongs_of x)) (find (is_free_eigenvariable s (strongs_of x)) (variables x)) o least_free h
