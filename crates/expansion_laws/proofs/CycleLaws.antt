-- Cycles among the variables of trees.
use Rattle.std.proofs.Common.{◌≡◌, ◌↔◌, ℕ, zero, suc, Bool, true, false, ◌&&◌, ◌||◌, List, [], ◌∷◌, length, refl, sym, ap, subst, ◌∙◌, arith}
use Rattle.std.specs.Prelude.{Option, Some, None, is_some}
use Rattle.std.specs.List.{list_any, find, range_with_len}
use Rattle.std.specs.Option.{option_map, option_map_or, option_and_then}
use Rattle.std.specs.Ordering.{eq_by_cmp}
use Rattle.finite.specs.Finite as set
use Rattle.finite.proofs.Finite.{has-adds_each, has-listing, has-empty}
use Rattle.fol.specs.declared.symbols.Var.{Var}
use Rattle.fol.specs.Order.{var_cmp}
use Rattle.fol.specs.OrderLaws.{var_total}
use Rattle.fol.proofs.OrderTies.{var_ties}
use Rattle.lk_rules.proofs.Subsequents.{and_left, and_right, and_both}
use Rattle.search_laws.proofs.Tests.{clash, fails}
use Rattle.expansion_laws.specs.Dependency.{Expansion, strongs_of, is_before, Path, step, on, IsAcyclic}
use Rattle.expansion_laws.proofs.Lists.{some_passes, any_of}
use Rattle.expansion_laws.specs.Cycles.{is_chain, is_cycle, leads, fewest, way, cycle_from, first_cycle, variables, cycle}
use Rattle.expansion_laws.proofs.Times.{equal_back, self_tied}
use Rattle.expansion_laws.proofs.Found.{found_passes, some_found, none_found, none_passes, no_number, number_passes}
use Rattle.expansion_laws.proofs.Shortcuts.{short_cycle, leads_on}

module _ {V : Type 0} (before : V → V → Bool) (all : List V) where
  -- a way and the member where it begins are a chain
  way_chain : (n : ℕ) (y z : V) → leads before all n y z ≡ true → is_chain before (y ∷ way before all n y z) z ≡ true
  way_chain zero y z e = e
  way_chain (suc n) y z e =
      let p : V → Bool = λ w. before y w && leads before all n w z in
      let f = some_found p all e in
      let h : (before y f.0 && leads before all n f.0 z) ≡ true = found_passes p all f.0 f.1 in
      ap (λ o. is_chain before (y ∷ option_map_or (λ w. w ∷ way before all n w z) o []) z) f.1
      ∙ and_both (before y f.0) (is_chain before (f.0 ∷ way before all n f.0 z) z) (and_left _ _ h) (way_chain n f.0 z (and_right (before y f.0) _ h))

  -- what begins at a member is a cycle
  cycle_from_is : (v : V) (o : Option ℕ) (vs : List V) → fewest before all v v ≡ o → option_map (λ n. v ∷ way before all n v v) o ≡ Some vs → is_cycle before vs ≡ true
  cycle_from_is v None vs f e = cc
  cycle_from_is v (Some n) vs f e =
      let same : v ∷ way before all n v v ≡ vs = cc in
      subst (λ ws. is_cycle before ws ≡ true) same (way_chain n v v (found_passes (λ m. leads before all m v v) (range_with_len 0 (length all)) n f))

  first_cycle_by : (o : Option V) (vs : List V) → option_and_then (cycle_from before all) o ≡ Some vs → is_cycle before vs ≡ true
  first_cycle_by None vs e = cc
  first_cycle_by (Some v) vs e = cycle_from_is v (fewest before all v v) vs refl e

  pub first_cycle_is : (vs : List V) → first_cycle before all ≡ Some vs → is_cycle before vs ≡ true
  first_cycle_is vs e = first_cycle_by (find (λ v. is_some (fewest before all v v)) all) vs e

  from_some : (v : V) (o : Option ℕ) → is_some o ≡ true → option_map (λ n. v ∷ way before all n v v) o ≡ None → ⊥
  from_some v None h e = cc
  from_some v (Some n) h e = cc

  none_by : (o : Option V) → find (λ v. is_some (fewest before all v v)) all ≡ o → option_and_then (cycle_from before all) o ≡ None → list_any (λ v. is_some (fewest before all v v)) all ≡ false
  none_by None f e = none_passes (λ v. is_some (fewest before all v v)) all f
  none_by (Some v) f e = absurd (from_some v (fewest before all v v) (found_passes (λ w. is_some (fewest before all w w)) all v f) e)

  -- where no cycle is shown, no member lies on one
  pub none_lies : first_cycle before all ≡ None → list_any (λ v. is_some (fewest before all v v)) all ≡ false
  none_lies e = none_by (find (λ v. is_some (fewest before all v v)) all) refl e

  -- where no member leads to itself, no cycle is shown
  pub none_shown : ((v : V) (n : ℕ) → leads before all n v v ≡ false) → first_cycle before all ≡ None
  none_shown h =
      ap (option_and_then (cycle_from before all))
      (none_found (λ v. is_some (fewest before all v v)) all
      (fails (list_any (λ v. is_some (fewest before all v v)) all)
      (λ e. some_passes (λ v. is_some (fewest before all v v)) all
      (λ v k. clash (is_some (fewest before all v v)) k (ap is_some (no_number (λ n. leads before all n v v) 0 (length all) (λ n low high. h v n)))) e)))

pub same_by : (v w : Var) → eq_by_cmp var_cmp v w ≡ true → v ≡ w
same_by v w e = var_ties v w (equal_back (var_cmp v w) e)

module _ (x : Expansion) where
  -- the variables are those of the strong quantifiers
  pub among_variables : (v : Var) → list_any (eq_by_cmp var_cmp v) (variables x) ≡ list_any (eq_by_cmp var_cmp v) (strongs_of x)
  among_variables v =
      sym (has-listing (set.adds_each (set.empty {R = var_cmp}) (strongs_of x)) v) ∙ has-adds_each var_total set.empty (strongs_of x) v
      ∙ ap (λ b. b || list_any (eq_by_cmp var_cmp v) (strongs_of x)) (has-empty var_cmp v)

  is_variable : (y z : Var) → is_before x y z ≡ true → list_any (eq_by_cmp var_cmp y) (variables x) ≡ true
  is_variable y z e = among_variables y ∙ and_left _ _ e

  starts : (y z : Var) → Path x y z → list_any (eq_by_cmp var_cmp y) (variables x) ≡ true
  starts _ _ (step y z e) = is_variable y z e
  starts _ _ (on y z w e p) = is_variable y z e

  path_leads : (y z : Var) → Path x y z → (n : ℕ) × (leads (is_before x) (variables x) n y z ≡ true)
  path_leads _ _ (step y z e) = (0, e)
  path_leads _ _ (on y z w e p) =
      let r = path_leads z w p in
      (suc r.0, leads_on (eq_by_cmp var_cmp) same_by self_tied (is_before x) (variables x) r.0 y z w (starts z w p) e r.1)

  leads_path : (n : ℕ) (y z : Var) → leads (is_before x) (variables x) n y z ≡ true → Path x y z
  leads_path zero y z e = step y z e
  leads_path (suc n) y z e =
      some_passes (λ w. is_before x y w && leads (is_before x) (variables x) n w z) (variables x)
      (λ w h. on y w z (and_left (is_before x y w) _ h) (leads_path n w z (and_right (is_before x y w) (leads (is_before x) (variables x) n w z) h)))
      e

  -- a variable that leads to itself lies on a cycle
  lies : (v : Var) → Path x v v → is_some (fewest (is_before x) (variables x) v v) ≡ true
  lies v p =
      let r = path_leads v v p in
      let s = short_cycle (eq_by_cmp var_cmp) same_by self_tied (is_before x) (variables x) v (starts v v p) r.0 r.1 in
      let f = some_found (λ n. leads (is_before x) (variables x) n v v) (range_with_len 0 (length (variables x))) (number_passes (λ n. leads (is_before x) (variables x) n v v) 0 (length (variables x)) s.0 (omega arith) (omega arith) s.2) in
      ap is_some f.1

  acyclic_by : first_cycle (is_before x) (variables x) ≡ None → IsAcyclic x
  acyclic_by e v p =
      clash (list_any (λ w. is_some (fewest (is_before x) (variables x) w w)) (variables x))
      (any_of (eq_by_cmp var_cmp) same_by (λ w. is_some (fewest (is_before x) (variables x) w w)) (variables x) v (starts v v p) (lies v p))
      (none_lies (is_before x) (variables x) e)

  none_by_acyclic : IsAcyclic x → first_cycle (is_before x) (variables x) ≡ None
  none_by_acyclic h = none_shown (is_before x) (variables x) (λ v n. fails (leads (is_before x) (variables x) n v v) (λ e. absurd (h v (leads_path n v v e))))

-- a cycle is shown just where a variable leads to itself
pub acyclic_shown : (x : Expansion) → (cycle x ≡ None) ↔ IsAcyclic x
unfolding cycle
acyclic_shown x = (acyclic_by x, none_by_acyclic x)

-- what is shown is a cycle
pub shown_cycle : (x : Expansion) (vs : List Var) → cycle x ≡ Some vs → is_cycle (is_before x) vs ≡ true
unfolding cycle
shown_cycle x vs e = first_cycle_is (is_before x) (variables x) vs e
