-- Maps from variables to terms, with one more binding and with fewer.
use Rattle.std.proofs.Common.{◌≡◌, ℕ, Bool, true, false, ◌&&◌, ◌||◌, not, cond, List, [], ◌∷◌, map, length, Option, Some, None, ◌↔◌, refl, sym, ap, ◌∙◌, subst, arith}
use Rattle.std.specs.List.{All, list_any}
use Rattle.std.specs.Option.{option_map, unwrap_or}
use Rattle.std.specs.Ordering.{nat_cmp, eq_by_cmp}
use Rattle.std.specs.FinMap as fin
use Rattle.std.proofs.lemmas.Cmp.{nat_cmp_total}
use Rattle.std.proofs.lemmas.List.Elements.{All-head, All-tail}
use Rattle.fol.specs.declared.symbols.Var.{Var}
use Rattle.fol.specs.Syntax.{Term, free}
use Rattle.fol.specs.Order.{var_cmp, term_cmp}
use Rattle.fol.specs.OrderLaws.{var_total, term_total}
use Rattle.fol.proofs.OrderTies.{var_ties, term_ties}
use Rattle.finite.specs.Finite as set
use Rattle.finite.specs.Place.{place}
use Rattle.substitution.specs.Maps.{Map as Substitution}
use Rattle.substitution.specs.Restriction.{is_moved, restricted}
use Rattle.arena_cells.specs.declared.key.Key.TheVariants.{Map}
use Rattle.arena_cells.specs.Items.{Item}
use Rattle.arena_cells.specs.Standing.{IsDistinct, variable_at, term_at, map_at, variables_at, IsVariableAt, IsTermAt}
use Rattle.arena_cells.specs.Meaning.{bindings, vars_of, AreRisingVariables, AreBindings, IsKeyAt}
use Rattle.arena_cells.proofs.Staying.{is_term, is_map, variable_term}
use Rattle.arena_cells.proofs.Sets.{has-set_of, same_test, found_by_number}
use Rattle.arena_cells.proofs.Bindings.{value_in, get-bindings}
use Rattle.arena_cells.proofs.OneKey.{one_variable, one_term}
use Rattle.arena.specs.Pairs.{number_in, keys_with, values_with, keys_kept, values_kept}
use Rattle.arena.specs.Bindings.{is_kept}
use Rattle.proof_trees.proofs.Passing.{itself, same_here, one_passes, passes}
use Rattle.arena.proofs.SetLaws.{list_any-map, same_any, among}
use Rattle.arena.proofs.PairLaws.{number_with, keys_with_rise, keys_with_all, values_with_all, with_lengths, keys_with_members, kept_by, number_kept, keys_kept_rise, keys_kept_all, values_kept_all, kept_lengths, all_kept, number_all, kept_among}

no_value : (vs : List Var) (ts : List Term) (q : Var) → list_any (eq_by_cmp var_cmp q) vs ≡ false → value_in vs ts q ≡ None
no_value [] ts q h = refl
no_value (v ∷ vs) [] q h = refl
no_value (v ∷ vs) (t ∷ ts) q h =
    elim (eq_by_cmp var_cmp q v) as (λ b. (b || list_any (eq_by_cmp var_cmp q) vs) ≡ false → cond b (Some t) (value_in vs ts q) ≡ None) [
      | true ↦ λ e. cc
      | false ↦ λ e. no_value vs ts q e
    ] h

map-cond : {X Y : Type 0} (f : X → Y) (b : Bool) (x : X) (o : Option X) → option_map f (cond b (Some x) o) ≡ cond b (Some (f x)) (option_map f o)
map-cond f true x o = refl
map-cond f false x o = refl

neither_left : (a b : Bool) → (a || b) ≡ false → a ≡ false
neither_left true b h = h
neither_left false b h = refl

neither_right : (a b : Bool) → (a || b) ≡ false → b ≡ false
neither_right true b h = cc
neither_right false b h = h

none_either_way : (b : Bool) (o : Option Term) → o ≡ None → cond b o None ≡ None
none_either_way true o e = e
none_either_way false o e = refl

module _ (a : List Item) (distinct : IsDistinct a) where
  -- the term of a variable by its number
  value_at : (vs ts : List ℕ) (n : ℕ) → All (IsVariableAt a) vs → IsVariableAt a n
      → value_in (map (variable_at a) vs) (map (term_at a) ts) (variable_at a n) ≡ option_map (term_at a) (number_in vs ts n)
  value_at [] ts n h p = refl
  value_at (v ∷ vs) [] n h p = refl
  value_at (v ∷ vs) (t ∷ ts) n h p =
      (λ i. cond (same_test var_total var_ties (variable_at a) (IsVariableAt a) (one_variable a distinct) n v p (All-head (IsVariableAt a) v vs h) i) (Some (term_at a t))
      (value_at vs ts n (All-tail (IsVariableAt a) v vs h) p i))
      ∙ sym (map-cond (term_at a) (eq_by_cmp nat_cmp n v) t (number_in vs ts n))

  -- a variable of a list has a number in it
  numbered : (q : Var) (ns : List ℕ) → list_any (eq_by_cmp var_cmp q) (map (variable_at a) ns) ≡ true
      → (n : ℕ) × (list_any (eq_by_cmp nat_cmp n) ns ≡ true) × (q ≡ variable_at a n)
  numbered q ns h =
      let one = one_passes nat_cmp_total fin.nat_cmp-IsAntisymmetric (λ n. eq_by_cmp var_cmp q (variable_at a n)) ns (sym (list_any-map (eq_by_cmp var_cmp q) (variable_at a) ns) ∙ h) in
      (one.0, one.1, same_here var_total var_ties q (variable_at a one.0) one.2)

  module _ (vs ts : List ℕ) (x t : ℕ) (h : AreBindings a vs ts) (p : IsVariableAt a x) (r : IsTermAt a t) where
    abbrev ks : List ℕ
    ks = keys_with x vs (place nat_cmp x vs)

    abbrev us : List ℕ
    us = values_with t ts (place nat_cmp x vs)

    pub bindings_with : AreBindings a ks us
    bindings_with = record {
      variables = record {
        rises = keys_with_rise x vs h.variables.rises;
        members = keys_with_all (IsVariableAt a) x vs (place nat_cmp x vs) p h.variables.members;
      };
      values = values_with_all (IsTermAt a) t ts (place nat_cmp x vs) r h.values;
      lengths = with_lengths x t vs ts h.lengths;
    }

    value_with : (q : Var) (b : Bool) → list_any (eq_by_cmp var_cmp q) (map (variable_at a) ks) ≡ b
        → value_in (map (variable_at a) ks) (map (term_at a) us) q ≡ cond (eq_by_cmp var_cmp q (variable_at a x)) (Some (term_at a t)) (value_in (map (variable_at a) vs) (map (term_at a) ts) q)
    value_with q true there =
        let one = numbered q ks there in
        let here : IsVariableAt a one.0 = among (IsVariableAt a) one.0 ks one.1 bindings_with.variables.members in
        subst (λ (v : Var). value_in (map (variable_at a) ks) (map (term_at a) us) v ≡ cond (eq_by_cmp var_cmp v (variable_at a x)) (Some (term_at a t)) (value_in (map (variable_at a) vs) (map (term_at a) ts) v)) (sym one.2)
        (value_at ks us one.0 bindings_with.variables.members here
        ∙ ap (option_map (term_at a)) (number_with x t vs ts one.0 h.lengths)
        ∙ map-cond (term_at a) (eq_by_cmp nat_cmp one.0 x) t (number_in vs ts one.0)
        ∙ (λ i. cond (sym (same_test var_total var_ties (variable_at a) (IsVariableAt a) (one_variable a distinct) one.0 x here p) i) (Some (term_at a t)) (sym (value_at vs ts one.0 h.variables.members here) i)))
    value_with q false there =
        let members = list_any-map (eq_by_cmp var_cmp q) (variable_at a) ks
        ∙ same_any nat_cmp_total fin.nat_cmp-IsAntisymmetric (λ n. eq_by_cmp var_cmp q (variable_at a n)) ks (x ∷ vs) (keys_with_members x vs h.variables.rises) in
        let neither : (eq_by_cmp var_cmp q (variable_at a x) || list_any (λ n. eq_by_cmp var_cmp q (variable_at a n)) vs) ≡ false = sym members ∙ there in
        no_value (map (variable_at a) ks) (map (term_at a) us) q there
        ∙ sym (ap (λ b. cond b (Some (term_at a t)) (value_in (map (variable_at a) vs) (map (term_at a) ts) q)) (neither_left _ _ neither)
        ∙ no_value (map (variable_at a) vs) (map (term_at a) ts) q (list_any-map (eq_by_cmp var_cmp q) (variable_at a) vs ∙ neither_right (eq_by_cmp var_cmp q (variable_at a x)) _ neither))

    -- the lists with one more pair are those of the map with one more binding
    pub insert_shown : bindings (map (variable_at a) ks) (map (term_at a) us) ≡ fin.insert (bindings (map (variable_at a) vs) (map (term_at a) ts)) (variable_at a x) (term_at a t)
    insert_shown = fin.same_map var_total var_ties _ _ (λ q.
        get-bindings (map (variable_at a) ks) (map (term_at a) us) q ∙ value_with q _ refl
        ∙ sym (fin.get-insert var_total (bindings (map (variable_at a) vs) (map (term_at a) ts)) (variable_at a x) (term_at a t) q
        ∙ ap (cond (eq_by_cmp var_cmp q (variable_at a x)) (Some (term_at a t))) (get-bindings (map (variable_at a) vs) (map (term_at a) ts) q)))

  module _ (vs ts ss : List ℕ) (h : AreBindings a vs ts) (s : AreRisingVariables a ss) where
    abbrev m : Substitution
    m = bindings (map (variable_at a) vs) (map (term_at a) ts)

    abbrev kept : List ℕ
    kept = keys_kept (is_kept ss) vs ts

    abbrev values : List ℕ
    values = values_kept (is_kept ss) vs ts

    pub bindings_kept : AreBindings a kept values
    bindings_kept = record {
      variables = record {
        rises = keys_kept_rise (is_kept ss) vs ts h.variables.rises;
        members = keys_kept_all (is_kept ss) (IsVariableAt a) vs ts h.variables.members;
      };
      values = values_kept_all (is_kept ss) (IsTermAt a) vs ts h.values;
      lengths = kept_lengths (is_kept ss) vs ts;
    }

    -- whether a binding is kept, by numbers and by the variable and the term
    same_kept : (n t : ℕ) → IsVariableAt a n → IsTermAt a t → fin.get m (variable_at a n) ≡ Some (term_at a t)
        → is_kept ss n t ≡ (set.has (vars_of a ss) (variable_at a n) && is_moved m (variable_at a n))
    same_kept n t p r e =
        let in_set : set.has (vars_of a ss) (variable_at a n) ≡ list_any (eq_by_cmp nat_cmp n) ss =
        has-set_of var_total (variable_at a) ss (variable_at a n) ∙ found_by_number var_total var_ties (variable_at a) (IsVariableAt a) (one_variable a distinct) n ss p s.members in
        let moved : eq_by_cmp term_cmp (unwrap_or (fin.get m (variable_at a n)) (free (variable_at a n))) (free (variable_at a n)) ≡ eq_by_cmp nat_cmp t n =
        ap (λ o. eq_by_cmp term_cmp (unwrap_or o (free (variable_at a n))) (free (variable_at a n))) e
        ∙ ap (eq_by_cmp term_cmp (term_at a t)) (sym (is_term a n _ p))
        ∙ same_test term_total term_ties (term_at a) (IsTermAt a) (one_term a distinct) t n r (variable_term a n p) in
        λ i. sym in_set i && not (sym moved i)

    abbrev outcome : Var → Option Term
    outcome q = cond (set.has (vars_of a ss) q && is_moved m q) (fin.get m q) None

    by_number : (n : ℕ) → IsVariableAt a n → (o : Option ℕ) → number_in vs ts n ≡ o → option_map (term_at a) (kept_by (is_kept ss) n o) ≡ outcome (variable_at a n)
    by_number n p None e =
        let nothing : fin.get m (variable_at a n) ≡ None = get-bindings _ _ (variable_at a n) ∙ value_at vs ts n h.variables.members p ∙ ap (option_map (term_at a)) e in
        sym (none_either_way (set.has (vars_of a ss) (variable_at a n) && is_moved m (variable_at a n)) (fin.get m (variable_at a n)) nothing)
    by_number n p (Some t) e =
        let value : fin.get m (variable_at a n) ≡ Some (term_at a t) = get-bindings _ _ (variable_at a n) ∙ value_at vs ts n h.variables.members p ∙ ap (option_map (term_at a)) e in
        map-cond (term_at a) (is_kept ss n t) t None
        ∙ (λ i. cond (same_kept n t p (number_all (IsTermAt a) vs ts n t h.values e) value i) (sym value i) None)

    none_kept : (q : Var) → list_any (eq_by_cmp var_cmp q) (map (variable_at a) vs) ≡ false → (b : Bool) → list_any (eq_by_cmp var_cmp q) (map (variable_at a) kept) ≡ b → b ≡ false
    none_kept q out false e = refl
    none_kept q out true e =
        let one = numbered q kept e in
        let there : list_any (eq_by_cmp var_cmp q) (map (variable_at a) vs) ≡ true =
        list_any-map (eq_by_cmp var_cmp q) (variable_at a) vs
        ∙ passes nat_cmp_total fin.nat_cmp-IsAntisymmetric (λ n. eq_by_cmp var_cmp q (variable_at a n)) one.0 vs (kept_among (is_kept ss) one.0 vs ts one.1)
        (subst (λ (v : Var). eq_by_cmp var_cmp q v ≡ true) one.2 (itself var_total var_ties q)) in
        cc

    value_kept : (q : Var) (b : Bool) → list_any (eq_by_cmp var_cmp q) (map (variable_at a) vs) ≡ b → value_in (map (variable_at a) kept) (map (term_at a) values) q ≡ outcome q
    value_kept q true there =
        let one = numbered q vs there in
        let here : IsVariableAt a one.0 = among (IsVariableAt a) one.0 vs one.1 h.variables.members in
        subst (λ (v : Var). value_in (map (variable_at a) kept) (map (term_at a) values) v ≡ outcome v) (sym one.2)
        (value_at kept values one.0 bindings_kept.variables.members here
        ∙ ap (option_map (term_at a)) (number_kept (is_kept ss) vs ts one.0 h.variables.rises)
        ∙ by_number one.0 here (number_in vs ts one.0) refl)
    value_kept q false there =
        let gone : list_any (eq_by_cmp var_cmp q) (map (variable_at a) kept) ≡ false = none_kept q there (list_any (eq_by_cmp var_cmp q) (map (variable_at a) kept)) refl in
        let nothing : fin.get m q ≡ None = get-bindings _ _ q ∙ no_value (map (variable_at a) vs) (map (term_at a) ts) q there in
        no_value (map (variable_at a) kept) (map (term_at a) values) q gone
        ∙ sym (none_either_way (set.has (vars_of a ss) q && is_moved m q) (fin.get m q) nothing)

    -- the lists of the pairs that are kept are those of the restricted map
    pub restricted_shown : bindings (map (variable_at a) kept) (map (term_at a) values) ≡ restricted m (vars_of a ss)
    restricted_shown = fin.same_map var_total var_ties _ _ (λ q.
        get-bindings (map (variable_at a) kept) (map (term_at a) values) q ∙ value_kept q _ refl
        ∙ sym (fin.get-retain_keys m (λ v. set.has (vars_of a ss) v && is_moved m v) q (λ v e. ap (λ w. set.has (vars_of a ss) w && is_moved m w) (sym (var_ties q v e)))))

-- inserting a map's entries one by one makes the map
pub entries_map : (m : fin.FinMap var_cmp Term) → fin.from_entries (fin.entries m) ≡ m
entries_map m = fin.same_map var_total var_ties _ _ (λ q. fin.get-from_entries var_total (fin.entries m) q ∙ sym (fin.get-entries m q))

nothing_first : (a : List Item) (vs ts : List ℕ) → length vs ≡ length ts → bindings (map (variable_at a) vs) (map (term_at a) ts) ≡ fin.empty → length vs ≡ 0
nothing_first a [] ts l e = refl
nothing_first a (v ∷ vs) [] l e = absurd (omega arith)
nothing_first a (v ∷ vs) (t ∷ ts) l e =
    let first : fin.get (bindings (map (variable_at a) (v ∷ vs)) (map (term_at a) (t ∷ ts))) (variable_at a v) ≡ Some (term_at a t) =
    get-bindings (map (variable_at a) (v ∷ vs)) (map (term_at a) (t ∷ ts)) (variable_at a v)
    ∙ ap (λ b. cond b (Some (term_at a t)) (value_in (map (variable_at a) vs) (map (term_at a) ts) (variable_at a v))) (itself var_total var_ties (variable_at a v)) in
    let nothing : fin.get (bindings (map (variable_at a) (v ∷ vs)) (map (term_at a) (t ∷ ts))) (variable_at a v) ≡ None =
    ap (λ m. fin.get m (variable_at a v)) e ∙ fin.get-empty var_cmp (variable_at a v) in
    absurd (cc)

nothing_listed : (a : List Item) (vs ts : List ℕ) → length vs ≡ 0 → bindings (map (variable_at a) vs) (map (term_at a) ts) ≡ fin.empty
nothing_listed a [] ts e = refl
nothing_listed a (v ∷ vs) ts e = absurd (omega arith)

-- a map has no binding exactly where its lists are empty
pub without_binding : (a : List Item) (vs ts : List ℕ) → length vs ≡ length ts → (length vs ≡ 0) ↔ (bindings (map (variable_at a) vs) (map (term_at a) ts) ≡ fin.empty)
without_binding a vs ts same = (nothing_listed a vs ts, nothing_first a vs ts same)

-- the part of a map that changes variables of a set, by the number of its bindings
module _ (a : List Item) (distinct : IsDistinct a) (n q : ℕ) (vs ts ss : List ℕ) (key : IsKeyAt a n (Map vs ts)) (s : AreRisingVariables a ss) (shown : variables_at a q ≡ vars_of a ss) where
  abbrev changed : ℕ
  changed = length (keys_kept (is_kept ss) vs ts)

  part_shown : bindings (map (variable_at a) (keys_kept (is_kept ss) vs ts)) (map (term_at a) (values_kept (is_kept ss) vs ts)) ≡ restricted (map_at a n) (variables_at a q)
  part_shown = restricted_shown a distinct vs ts ss key.parts s ∙ λ i. restricted (sym (is_map a n _ key.stands) i) (sym shown i)

  pub none_changed : (k : ℕ) → k ≡ changed → (k ≡ 0) ↔ (restricted (map_at a n) (variables_at a q) ≡ fin.empty)
  none_changed k e =
      let listed = without_binding a (keys_kept (is_kept ss) vs ts) (values_kept (is_kept ss) vs ts) (kept_lengths (is_kept ss) vs ts) in
      (λ none. sym part_shown ∙ listed.0 (sym e ∙ none), λ empty. e ∙ listed.1 (part_shown ∙ empty))

  pub all_changed : (k : ℕ) → k ≡ changed → k ≡ length vs → restricted (map_at a n) (variables_at a q) ≡ map_at a n
  all_changed k e all =
      let kept = all_kept (is_kept ss) vs ts key.parts.lengths (sym e ∙ all) in
      sym part_shown ∙ (λ i. bindings (map (variable_at a) (kept.0 i)) (map (term_at a) (kept.1 i))) ∙ sym (is_map a n _ key.stands)
