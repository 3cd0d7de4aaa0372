-- The conditions of expansion proofs on variables, by what is found.
use Rattle.std.proofs.Common.{◌≡◌, ◌≤◌, true, false, ◌&&◌, ◌||◌, List, [], ◌∷◌, refl, sym, ap, ◌∙◌, arith, not}
use Rattle.std.specs.Prelude.{◌↔◌, Option, Some, None, IsNone}
use Rattle.std.specs.List.{list_any, list_all}
use Rattle.std.specs.Ordering.{eq_by_cmp}
use Rattle.std.specs.Cmp.Derive.{both_true}
use Rattle.std.proofs.lemmas.Bool.{and_parts}
use Rattle.std.proofs.Math.Bool.{or-true}
use Rattle.fol.specs.declared.symbols.Var.{Var}
use Rattle.fol.specs.Order.{var_cmp}
use Rattle.fol.proofs.OrderTies.{var_ties}
use Rattle.lk_rules.specs.declared.sequent.Sequent.{Sequent}
use Rattle.lk_rules.specs.Sequents.{is_free_in_sequent}
use Rattle.expansion_laws.specs.Proofs.{are_distinct}
use Rattle.expansion_laws.specs.Eigenvariables.{times, is_repeated, is_free_eigenvariable, IsLeast}
use Rattle.expansion_laws.proofs.Times.{equal_back, self_tied, times_more, at_most_back, more_back, or_parts}

pub none_times : (v : Var) (vs : List Var) → list_all (λ w. not (eq_by_cmp var_cmp v w)) vs ≡ true → times vs v ≡ 0
none_times v [] h = refl
none_times v (u ∷ us) h =
    let both = and_parts (not (eq_by_cmp var_cmp v u)) (list_all (λ w. not (eq_by_cmp var_cmp v w)) us) h in
    elim (eq_by_cmp var_cmp v u) as (λ b. eq_by_cmp var_cmp v u ≡ b → times (u ∷ us) v ≡ 0) [
      | true ↦ λ k. let no_tie : not (eq_by_cmp var_cmp v u) ≡ false = ap not k in let tie = both.0 in cc
      | false ↦ λ k. let many = times_more u v us false k in let rest = none_times v us both.1 in omega (arith, many, rest)
    ] refl

times_none : (v : Var) (vs : List Var) → times vs v ≡ 0 → list_all (λ w. not (eq_by_cmp var_cmp v w)) vs ≡ true
times_none v [] h = refl
times_none v (u ∷ us) h =
    elim (eq_by_cmp var_cmp v u) as (λ b. eq_by_cmp var_cmp v u ≡ b → list_all (λ w. not (eq_by_cmp var_cmp v w)) (u ∷ us) ≡ true) [
      | true ↦ λ k. let many = times_more u v us true k in absurd (omega (arith, many, h))
      | false ↦ λ k. let many = times_more u v us false k in both_true (ap not k) (times_none v us (omega (arith, many, h)))
    ] refl

distinct_once : (vs : List Var) → are_distinct vs ≡ true → (w : Var) → times vs w ≤ 1
distinct_once [] h w = omega arith
distinct_once (v ∷ vs) h w =
    let both = and_parts (list_all (λ u. not (eq_by_cmp var_cmp v u)) vs) (are_distinct vs) h in
    elim (eq_by_cmp var_cmp w v) as (λ b. eq_by_cmp var_cmp w v ≡ b → times (v ∷ vs) w ≤ 1) [
      | true ↦ λ k.
          let many = times_more v w vs true k in
          let same : times vs w ≡ times vs v = ap (times vs) (var_ties w v (equal_back (var_cmp w v) k)) in
          let rest = none_times v vs both.0 in
          omega (arith, many, same, rest)
      | false ↦ λ k. let many = times_more v w vs false k in let rest = distinct_once vs both.1 w in omega (arith, many, rest)
    ] refl

once_distinct : (vs : List Var) → ((w : Var) → times vs w ≤ 1) → are_distinct vs ≡ true
once_distinct [] h = refl
once_distinct (v ∷ vs) h =
    let own = times_more v v vs true (self_tied v) in
    let few = h v in
    both_true (times_none v vs (omega (arith, own, few)))
    (once_distinct vs (λ w. let more = times_more v w vs (eq_by_cmp var_cmp w v) refl in let all = h w in omega (arith, more, all)))

-- no variable is repeated just where they are distinct
pub distinct_by : (vs : List Var) (o : Option Var) → IsLeast (is_repeated vs) o → IsNone o ↔ (are_distinct vs ≡ true)
distinct_by vs None h = (λ e. once_distinct vs (λ w. at_most_back vs w (h w)), λ e. refl)
distinct_by vs (Some v) h = (λ e. cc, λ e. let few = distinct_once vs e v in let many = more_back vs v h.0 in absurd (omega (arith, few, many)))

shut_there : (s : Sequent) (w : Var) (vs : List Var) → list_any (λ v. is_free_in_sequent v s) vs ≡ false → (list_any (eq_by_cmp var_cmp w) vs && is_free_in_sequent w s) ≡ false
shut_there s w [] h = refl
shut_there s w (v ∷ vs) h =
    let both = or_parts (is_free_in_sequent v s) (list_any (λ u. is_free_in_sequent u s) vs) h in
    elim (eq_by_cmp var_cmp w v) as (λ b. eq_by_cmp var_cmp w v ≡ b → ((b || list_any (eq_by_cmp var_cmp w) vs) && is_free_in_sequent w s) ≡ false) [
      | true ↦ λ k. ap (λ u. is_free_in_sequent u s) (var_ties w v (equal_back (var_cmp w v) k)) ∙ both.0
      | false ↦ λ k. shut_there s w vs both.1
    ] refl

rest_shut : (s : Sequent) (v w : Var) (vs : List Var) → is_free_eigenvariable s (v ∷ vs) w ≡ false → is_free_eigenvariable s vs w ≡ false
rest_shut s v w vs h =
    elim (list_any (eq_by_cmp var_cmp w) vs) as (λ b. ((eq_by_cmp var_cmp w v || b) && is_free_in_sequent w s) ≡ false → (b && is_free_in_sequent w s) ≡ false) [
      | true ↦ λ k. ap (λ b. b && is_free_in_sequent w s) (sym (or-true (eq_by_cmp var_cmp w v))) ∙ k
      | false ↦ λ k. refl
    ] h

none_free : (s : Sequent) (vs : List Var) → ((w : Var) → is_free_eigenvariable s vs w ≡ false) → list_any (λ v. is_free_in_sequent v s) vs ≡ false
none_free s [] h = refl
none_free s (v ∷ vs) h =
    let own : is_free_in_sequent v s ≡ false = sym (ap (λ b. (b || list_any (eq_by_cmp var_cmp v) vs) && is_free_in_sequent v s) (self_tied v)) ∙ h v in
    ap (λ b. b || list_any (λ u. is_free_in_sequent u s) vs) own ∙ none_free s vs (λ w. rest_shut s v w vs (h w))

-- no variable of a strong quantifier is free just where none of the list is
pub fresh_by : (s : Sequent) (vs : List Var) (o : Option Var) → IsLeast (is_free_eigenvariable s vs) o → IsNone o ↔ (list_any (λ v. is_free_in_sequent v s) vs ≡ false)
fresh_by s vs None h = (λ e. none_free s vs h, λ e. refl)
fresh_by s vs (Some v) h = (λ e. cc, λ e. let shut = shut_there s v vs e in let free = h.0 in cc)
