-- When a formula has a definition, and which fault it has otherwise.
use Rattle.std.proofs.Common.{◌≡◌, ◌≢◌, ◌↔◌, ℕ, ◌+◌, ◌^◌, ◌<◌, ◌≤◌, Bool, true, false, not as negated, ltb, cond, if◌then◌else◌, List, [], ◌∷◌, length, find, Option, Some, None, Result, Ok, Err, refl, sym, ap, subst, ◌∙◌, arith}
use Rattle.std.specs.declared.cmp.Ordering.{Ordering}
use Rattle.std.specs.declared.cmp.Ordering.TheVariants.{Less, Equal, Greater}
use Rattle.std.specs.List.{list_any}
use Rattle.std.specs.Ordering.{eq_by_cmp, is_eq}
use Rattle.std.proofs.lemmas.Bool.Decides.{nat_tests}
use Rattle.fol.specs.declared.symbols.Var.{Var}
use Rattle.fol.specs.Syntax.{Pred, Formula}
use Rattle.fol.specs.Order.{var_cmp}
use Rattle.fol.specs.OrderLaws.{var_total}
use Rattle.fol.specs.Formed.{is_name, is_formed_pred, IsFormed, IsFormedPred}
use Rattle.fol.proofs.OrderTies.{var_ties}
use Rattle.finite.specs.Finite as set
use Rattle.finite.proofs.Finite.{has-listing, listing_rises}
use Rattle.finite.proofs.Rising.{IsBelow, head_below, tail_rises, below_none, below_less, turned}
use Rattle.free_variables.specs.Fresh.{is_among}
use Rattle.free_variables.specs.Occurrence.{is_free_in, vars_formula}
use Rattle.free_variables.proofs.OccurrenceLaws.{free_var_members}
use Rattle.substitution.specs.Instance.{nesting}
use Rattle.substitution.proofs.ImageLaws.{same_var, itself}
use Rattle.proof_trees.proofs.Booleans.{or_first, or_second, either}
use Rattle.step_laws.specs.Faults.{or_fault}
use Rattle.def_laws.specs.declared.fault.DefFault.{DefFault}
use Rattle.def_laws.specs.declared.fault.DefFault.TheVariants.{Free, Large}
use Rattle.def_laws.specs.Definitions.{definition}
use Rattle.def_laws.specs.Defining.{max_nodes, least_free, defining, IsFreeWithin, IsLeastFree}
use Rattle.def_laws.specs.Flat.{flat}
use Rattle.def_laws.specs.Nodes.{nodes_of}
use Rattle.def_laws.proofs.Closures.{formed_definition}
use Rattle.def_laws.proofs.NodeLaws.{nesting_kept, nesting_below_nodes}

-- the first element of a rising list that passes a test

record IsFirst (p : Var → Bool) (ks : List Var) (v : Var) : Type 0 where
  passes : p v ≡ true
  listed : list_any (eq_by_cmp var_cmp v) ks ≡ true
  least : (w : Var) → list_any (eq_by_cmp var_cmp w) ks ≡ true → p w ≡ true → var_cmp w v ≢ Less

pub not_less : (w v : Var) → eq_by_cmp var_cmp w v ≡ true → var_cmp w v ≢ Less
not_less w v e less = let other : eq_by_cmp var_cmp w v ≡ false = ap is_eq less in cc

above_first : (k w : Var) (ks : List Var) → set.IsRising var_cmp (k ∷ ks) → list_any (eq_by_cmp var_cmp w) ks ≡ true → var_cmp w k ≢ Less
above_first k w ks up listed less =
    let below : IsBelow var_cmp w ks = below_less var_cmp var_total k w ks less (head_below var_cmp k ks up) in
    let none : list_any (eq_by_cmp var_cmp w) ks ≡ false = below_none var_cmp w ks below in
    cc

found_first : (p : Var → Bool) (ks : List Var) (v : Var) → set.IsRising var_cmp ks → find p ks ≡ Some v → IsFirst p ks v
found_first p [] v up e = cc
found_first p (k ∷ ks) v up e = cases (found_first p ks v (tail_rises var_cmp k ks up)) (p k) refl e
  where
    here : k ≡ v → p k ≡ true → IsFirst p (k ∷ ks) v
    here same passes = subst (λ w. IsFirst p (k ∷ ks) w) same (record {
      passes = passes;
      listed = or_first (eq_by_cmp var_cmp k k) (list_any (eq_by_cmp var_cmp k) ks) (itself k);
      least = λ w listed good. either (eq_by_cmp var_cmp w k) (list_any (eq_by_cmp var_cmp w) ks) (not_less w k) (λ later. above_first k w ks up later) listed;
    })

    later : p k ≡ false → IsFirst p ks v → IsFirst p (k ∷ ks) v
    later fails first = record {
      passes = first.passes;
      listed = or_second (eq_by_cmp var_cmp v k) (list_any (eq_by_cmp var_cmp v) ks) first.listed;
      least = λ w listed good.
          either (eq_by_cmp var_cmp w k) (list_any (eq_by_cmp var_cmp w) ks)
          (λ same. let bad : p w ≡ false = ap p (same_var w k same) ∙ fails in cc)
          (λ rest. first.least w rest good)
          listed;
    }

    cases : (find p ks ≡ Some v → IsFirst p ks v) → (b : Bool) → p k ≡ b → cond b (Some k) (find p ks) ≡ Some v → IsFirst p (k ∷ ks) v
    cases rest true passes is = here (cc) passes
    cases rest false fails is = later fails (rest is)

none_found : (p : Var → Bool) (ks : List Var) → find p ks ≡ None → (w : Var) → list_any (eq_by_cmp var_cmp w) ks ≡ true → p w ≡ false
none_found p [] e w listed = cc
none_found p (k ∷ ks) e w listed = cases (λ is. none_found p ks is w) (p k) refl e
  where
    cases : (find p ks ≡ None → list_any (eq_by_cmp var_cmp w) ks ≡ true → p w ≡ false) → (b : Bool) → p k ≡ b → cond b (Some k) (find p ks) ≡ None → p w ≡ false
    cases rest true passes is = cc
    cases rest false fails is = either (eq_by_cmp var_cmp w k) (list_any (eq_by_cmp var_cmp w) ks) (λ same. ap p (same_var w k same) ∙ fails) (rest is) listed

-- the least free variable outside a list

not_so : (b : Bool) → negated b ≡ true → b ≡ false
not_so true e = cc
not_so false e = refl

so : (b : Bool) → negated b ≡ false → b ≡ true
so true e = refl
so false e = cc

is_listed : (f : Formula) (w : Var) → list_any (eq_by_cmp var_cmp w) (set.listing (vars_formula f set.empty)) ≡ is_free_in w f
is_listed f w = sym (has-listing (vars_formula f set.empty) w) ∙ free_var_members f w

pub least_is : (vs : List Var) (f : Formula) (v : Var) → least_free vs f ≡ Some v → IsLeastFree vs f v
least_is vs f v e =
    let first : IsFirst (λ v. negated (is_among v vs)) (set.listing (vars_formula f set.empty)) v = found_first _ _ v (listing_rises (vars_formula f set.empty)) e in
    record {
      free = sym (is_listed f v) ∙ first.listed;
      outside = not_so (is_among v vs) first.passes;
      least = λ w inside out. first.least w (is_listed f w ∙ inside) (ap negated out);
    }

pub within_of_none : (vs : List Var) (f : Formula) → least_free vs f ≡ None → IsFreeWithin vs f
within_of_none vs f e w inside = so (is_among w vs) (none_found (λ v. negated (is_among v vs)) (set.listing (vars_formula f set.empty)) e w (is_listed f w ∙ inside))

pub none_of_within : (vs : List Var) (f : Formula) → IsFreeWithin vs f → least_free vs f ≡ None
none_of_within vs f within = cases (least_free vs f) refl
  where
    cases : (o : Option Var) → least_free vs f ≡ o → least_free vs f ≡ None
    cases None e = e
    cases (Some v) e =
        let least : IsLeastFree vs f v = least_is vs f v e in
        let among : is_among v vs ≡ true = within v least.free in
        let out : is_among v vs ≡ false = least.outside in
        cc

one_least : (vs : List Var) (f : Formula) (v w : Var) → IsLeastFree vs f v → IsLeastFree vs f w → v ≡ w
one_least vs f v w a b = cases (var_cmp v w) refl
  where
    cases : (r : Ordering) → var_cmp v w ≡ r → v ≡ w
    cases Less e = absurd (b.least v a.free a.outside e)
    cases Equal e = var_ties v w e
    cases Greater e = absurd (a.least w b.free b.outside (turned var_cmp var_total v w e))

pub some_of_least : (vs : List Var) (f : Formula) (v : Var) → IsLeastFree vs f v → least_free vs f ≡ Some v
some_of_least vs f v least = cases (least_free vs f) refl
  where
    cases : (o : Option Var) → least_free vs f ≡ o → least_free vs f ≡ Some v
    cases None e =
        let among : is_among v vs ≡ true = within_of_none vs f e v least.free in
        let out : is_among v vs ≡ false = least.outside in
        cc
    cases (Some w) e = e ∙ ap (λ (u : Var). Some u) (one_least vs f w v (least_is vs f w e) least)

-- the answer, by what is found and whether there are too many nodes

abbrev answer : Option Var → Bool → Pred → Result Pred DefFault
answer o many d = or_fault Free o (if many then Err Large else Ok d)

answer_ok : (o : Option Var) (many : Bool) (d p : Pred) → answer o many d ≡ Ok p → (o ≡ None) × (many ≡ false) × (p ≡ d)
answer_ok None true d p e = cc
answer_ok None false d p e = (refl, refl, cc)
answer_ok (Some v) many d p e = cc

answer_free : (o : Option Var) (many : Bool) (d : Pred) (v : Var) → answer o many d ≡ Err (Free v) → o ≡ Some v
answer_free None true d v e = cc
answer_free None false d v e = cc
answer_free (Some w) many d v e = cc

answer_large : (o : Option Var) (many : Bool) (d : Pred) → answer o many d ≡ Err Large → (o ≡ None) × (many ≡ true)
answer_large None true d e = (refl, refl)
answer_large None false d e = cc
answer_large (Some v) many d e = cc

within_bound : (m n : ℕ) → ltb m n ≡ false → n ≤ m
within_bound m n e = grind (arith, nat_tests)

bound_holds : (m n : ℕ) → n ≤ m → ltb m n ≡ false
bound_holds m n h = grind (arith, nat_tests)

above_bound : (m n : ℕ) → ltb m n ≡ true → m < n
above_bound m n e = grind (arith, nat_tests)

bound_passed : (m n : ℕ) → m < n → ltb m n ≡ true
bound_passed m n h = grind (arith, nat_tests)

module _ (name : List ℕ) (vs : List Var) (f : Formula) where
  pub defined_is : (p : Pred) → (defining name vs f ≡ Ok p) ↔ (IsFreeWithin vs f × (nodes_of (flat f) ≤ max_nodes) × (p ≡ definition name vs f))
  unfolding defining
  defined_is p = (
    λ e.
        let is = answer_ok (least_free vs f) (ltb max_nodes (nodes_of (flat f))) (definition name vs f) p e in
        (within_of_none vs f is.0, within_bound _ _ is.1, is.2),
    λ h.
        (λ i. answer (none_of_within vs f h.0 i) (bound_holds max_nodes (nodes_of (flat f)) h.1 i) (definition name vs f)) ∙ ap (λ (d : Pred). Ok d) (sym h.2),
  )

  pub free_is : (v : Var) → (defining name vs f ≡ Err (Free v)) ↔ IsLeastFree vs f v
  unfolding defining
  free_is v = (
    λ e. least_is vs f v (answer_free (least_free vs f) (ltb max_nodes (nodes_of (flat f))) (definition name vs f) v e),
    λ h. ap (λ o. answer o (ltb max_nodes (nodes_of (flat f))) (definition name vs f)) (some_of_least vs f v h),
  )

  pub large_is : (defining name vs f ≡ Err Large) ↔ (IsFreeWithin vs f × (max_nodes < nodes_of (flat f)))
  unfolding defining
  large_is = (
    λ e.
        let is = answer_large (least_free vs f) (ltb max_nodes (nodes_of (flat f))) (definition name vs f) e in
        (within_of_none vs f is.0, above_bound _ _ is.1),
    λ h. λ i. answer (none_of_within vs f h.0 i) (bound_passed max_nodes (nodes_of (flat f)) h.1 i) (definition name vs f),
  )

  pub few_quantifiers : (p : Pred) → defining name vs f ≡ Ok p → nesting f < 10000
  few_quantifiers p e =
      let few : nodes_of (flat f) ≤ max_nodes = ((defined_is p).0 e).1 in
      omega (arith, nesting_kept f, nesting_below_nodes (flat f))

  pub formed_defined : (p : Pred) → is_name name ≡ true → IsFormed f → length vs + 10000 < 2 ^ 32 → defining name vs f ≡ Ok p → IsFormedPred p
  formed_defined p named h few e =
      let is = (defined_is p).0 e in
      let less : nesting f < 10000 = few_quantifiers p e in
      let room : length vs + nesting f < 2 ^ 32 = omega arith in
      ap is_formed_pred is.2 ∙ formed_definition name vs f named room h is.0
