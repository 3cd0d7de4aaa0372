-- The cycle that is shown, by the numbers of variables.
use Rattle.std.proofs.Common.{◌≡◌, ℕ, zero, suc, ◌+◌, ◌<◌, Bool, false, ◌&&◌, ◌||◌, List, [], ◌∷◌, ◌++◌, map, take, length, get_or, refl, sym, ap, ◌∙◌, subst, arith}
use Rattle.std.specs.Prelude.{Option, Some, None, is_some}
use Rattle.std.specs.Option.{option_map, option_map_or, option_and_then}
use Rattle.std.specs.List.{All, list_any, find, range_with_len}
use Rattle.std.specs.Ordering.{eq_by_cmp}
use Rattle.std.proofs.lemmas.List.{get_or_read, map-append, take_more}
use Rattle.std.proofs.lemmas.List.Folds.{list_any_at}
use Rattle.std.proofs.lemmas.List.Elements.{All-nil, All-cons}
use Rattle.fol.specs.declared.symbols.Var.{Var}
use Rattle.fol.specs.Order.{var_cmp}
use Rattle.expansion_laws.specs.Dependency.{Expansion, is_above, is_before}
use Rattle.expansion_laws.specs.Cycles.{leads, fewest, way, cycle_from, first_cycle, variables, cycle}
use Rattle.exp_check.specs.Edges.{IsExtended}
use Rattle.exp_check.specs.Links.{has_link, AreLinks}
use Rattle.exp_check.specs.declared.dependency.Edge.{Edge}
use Rattle.exp_check.specs.declared.links.Link.{Link}
use Rattle.expansion_laws.proofs.CycleLaws.{among_variables}
use Rattle.expansion_laws.proofs.Found.{found_within}
use Rattle.expansion_laws.proofs.Times.{self_tied}
use Rattle.exp_check.proofs.TransferLaws.{first_cycle_same}

module _ (before : ℕ → ℕ → Bool) (n : ℕ) where
  way_within : (k y z : ℕ) → All (λ i. i < n) (way before (range_with_len 0 n) k y z)
  way_within zero y z = All-nil (λ i. i < n)
  way_within (suc k) y z =
      elim (find (λ w. before y w && leads before (range_with_len 0 n) k w z) (range_with_len 0 n)) as (λ o. find (λ w. before y w && leads before (range_with_len 0 n) k w z) (range_with_len 0 n) ≡ o
      → All (λ i. i < n) (option_map_or (λ w. w ∷ way before (range_with_len 0 n) k w z) o [])) [
        | None ↦ λ e. All-nil (λ i. i < n)
        | Some w ↦ λ e.
            let within = found_within (λ u. before y u && leads before (range_with_len 0 n) k u z) 0 n w e in
            All-cons (λ i. i < n) w (way before (range_with_len 0 n) k w z) (omega arith) (way_within k w z)
      ] refl

  cycle_within : (v : ℕ) (o : Option ℕ) (ns : List ℕ) → v < n → option_map (λ k. v ∷ way before (range_with_len 0 n) k v v) o ≡ Some ns → All (λ i. i < n) ns
  cycle_within v None ns in_v e = cc
  cycle_within v (Some k) ns in_v e =
      let same : v ∷ way before (range_with_len 0 n) k v v ≡ ns = cc in
      subst (All (λ i. i < n)) same (All-cons (λ i. i < n) v (way before (range_with_len 0 n) k v v) in_v (way_within k v v))

  -- the numbers of a cycle are below the count
  pub numbers_within : (ns : List ℕ) → Some ns ≡ first_cycle before (range_with_len 0 n) → All (λ i. i < n) ns
  numbers_within ns is =
      elim (find (λ v. is_some (fewest before (range_with_len 0 n) v v)) (range_with_len 0 n)) as (λ o. find (λ v. is_some (fewest before (range_with_len 0 n) v v)) (range_with_len 0 n) ≡ o
      → option_and_then (cycle_from before (range_with_len 0 n)) o ≡ Some ns → All (λ i. i < n) ns) [
        | None ↦ λ e f. cc
        | Some v ↦ λ e f.
            let within = found_within (λ u. is_some (fewest before (range_with_len 0 n) u u)) 0 n v e in
            cycle_within v (fewest before (range_with_len 0 n) v v) ns (omega arith) f
      ] refl (sym is)

module _ {V : Type 0} (before : V → V → Bool) (link : ℕ → ℕ → Bool) where
  -- without a cycle of numbers
  pub none_named : (vs : List V) → ((i j : ℕ) (d : V) → i < length vs → j < length vs → link i j ≡ before (get_or vs i d) (get_or vs j d))
      → None ≡ first_cycle link (range_with_len 0 (length vs)) → None ≡ first_cycle before vs
  none_named [] same e = refl
  none_named (v ∷ vs) same e =
      ap (option_map (map (λ i. get_or (v ∷ vs) i v))) e ∙ sym (first_cycle_same before (v ∷ vs) v link (λ i j in_i in_j. same i j v in_i in_j))

  -- with one
  pub some_named : (vs : List V) (ns : List ℕ) (us : List V) → ((i j : ℕ) (d : V) → i < length vs → j < length vs → link i j ≡ before (get_or vs i d) (get_or vs j d))
      → Some ns ≡ first_cycle link (range_with_len 0 (length vs)) → ((d : V) → us ≡ map (λ i. get_or vs i d) ns) → Some us ≡ first_cycle before vs
  some_named [] ns us same e named = cc
  some_named (v ∷ vs) ns us same e named =
      ap Some (named v) ∙ ap (option_map (map (λ i. get_or (v ∷ vs) i v))) e ∙ sym (first_cycle_same before (v ∷ vs) v link (λ i j in_i in_j. same i j v in_i in_j))

module _ (x : Expansion) (es : List Edge) (ls : List Link) (links : AreLinks (variables x) es ls)
    (edges : IsExtended [] es (λ y z. list_any (is_above y z false) x.left || list_any (is_above y z false) x.right)) where
  linked : (i j : ℕ) (d : Var) → i < length (variables x) → j < length (variables x) → has_link ls i j ≡ is_before x (get_or (variables x) i d) (get_or (variables x) j d)
  linked i j d in_i in_j =
      let y = get_or (variables x) i d in
      let z = get_or (variables x) j d in
      links.linked i j d in_i in_j ∙ edges y z
      ∙ ap (λ b. b && (list_any (is_above y z false) x.left || list_any (is_above y z false) x.right))
      (sym (sym (among_variables x y) ∙ list_any_at (eq_by_cmp var_cmp y) (variables x) i d in_i (self_tied y)))

  -- no cycle is shown
  pub none_shown : None ≡ first_cycle (has_link ls) (range_with_len 0 (length (variables x))) → None ≡ cycle x
  unfolding cycle
  none_shown e = none_named (is_before x) (has_link ls) (variables x) linked e

  -- the variables of the numbers are
  pub some_shown : (ns : List ℕ) (us : List Var) → Some ns ≡ first_cycle (has_link ls) (range_with_len 0 (length (variables x))) → ((d : Var) → us ≡ map (λ i. get_or (variables x) i d) ns) → Some us ≡ cycle x
  unfolding cycle
  some_shown ns us e named = some_named (is_before x) (has_link ls) (variables x) ns us linked e named

-- one more variable by its number
pub named_more : (vs : List Var) (ns : List ℕ) (k : ℕ) (d v : Var) (items more : List Var) → k < length ns → get_or ns k 0 < length vs → v ≡ get_or vs (get_or ns k 0) v
    → items ≡ map (λ i. get_or vs i d) (take k ns) → more ≡ items ++ v ∷ [] → more ≡ map (λ i. get_or vs i d) (take (k + 1) ns)
named_more vs ns k d v items more within in_vs is so_far pushed =
    pushed ∙ (λ j. so_far j ++ get_or_read vs (get_or ns k 0) v in_vs is d j ∷ [])
    ∙ sym (map-append (λ i. get_or vs i d) (take k ns) (get_or ns k 0 ∷ [])) ∙ ap (map (λ i. get_or vs i d)) (sym (take_more ns k 0 within))
