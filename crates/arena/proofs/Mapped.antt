-- A variable under a change.
use Rattle.std.proofs.Common.{◌≡◌, ℕ, suc, ◌<◌, Bool, true, false, if◌then◌else◌, List, [], ◌∷◌, map, length, get_or, Option, Some, None, is_some, Result, Ok, Err, is_ok, refl, sym, ap, ◌∙◌, subst, arith}
use Rattle.std.specs.Option.{unwrap_or}
use Rattle.std.specs.List.{All}
use Rattle.std.specs.declared.cmp.Ordering.TheVariants.{Less, Equal, Greater}
use Rattle.std.specs.Ordering.{nat_cmp, eq_by_cmp, is_eq}
use Rattle.std.specs.Cmp.{tied_itself, Equal-is}
use Rattle.std.proofs.lemmas.Cmp.{nat_cmp_total}
use Rattle.std.proofs.lemmas.List.Elements.{All-head, All-tail}
use Rattle.std.specs.FinMap as fin
use Rattle.fol.specs.Syntax as fol
use Rattle.fol.specs.Syntax.{Term}
use Rattle.fol.specs.OrderLaws.{var_total}
use Rattle.fol.proofs.OrderTies.{var_ties}
use Rattle.finite.specs.Place.{place, place_by, later}
use Rattle.finite.proofs.Finite.{has-of_rising}
use Rattle.finite.proofs.Places.{has-place}
use Rattle.substitution.specs.Instance.{bind_term_at}
use Rattle.substitution.specs.Image.{image_term}
use Rattle.arena_cells.specs.declared.key.Key.TheVariants.{Map}
use Rattle.arena_cells.specs.Items.{Item, term}
use Rattle.arena_cells.specs.Standing.{IsDistinct, HasTerm, item_at, variable_at, term_at, map_at, IsVariableAt}
use Rattle.arena_cells.specs.Meaning.{bindings, IsKeyAt}
use Rattle.arena.specs.Changes.{Operation, binding, on_term, changed}
use Rattle.arena_cells.proofs.Staying.{item_is, is_map}
use Rattle.arena_cells.proofs.Sets.{same_test, found_by_number}
use Rattle.arena_cells.proofs.Bindings.{value_in, get-bindings, is_some-bindings, same_lengths}
use Rattle.arena_cells.proofs.OneKey.{one_variable, at_first, at_other}

none_of : {X : Type 0} (o : Option X) → is_some o ≡ false → o ≡ None
none_of None h = refl
none_of (Some x) h = cc

module _ (a : List Item) (distinct : IsDistinct a) where
  -- what is found after the first variable
  after_first : (v : ℕ) (vs : List ℕ) (t : ℕ) (ts : List ℕ) (m i : ℕ)
      → ((j : ℕ) → place nat_cmp m vs ≡ Ok j → (j < length ts) × (value_in (map (variable_at a) vs) (map (term_at a) ts) (variable_at a m) ≡ Some (term_at a (get_or ts j 0))))
      → IsVariableAt a v → IsVariableAt a m → nat_cmp v m ≡ Less → (r : Result ℕ ℕ) → place nat_cmp m vs ≡ r → later r ≡ Ok i
      → (i < length (t ∷ ts)) × (value_in (map (variable_at a) (v ∷ vs)) (map (term_at a) (t ∷ ts)) (variable_at a m) ≡ Some (term_at a (get_or (t ∷ ts) i 0)))
  after_first v vs t ts m i rest h p below (Err j) is found = cc
  after_first v vs t ts m i rest h p below (Ok j) is found =
      let next : suc j ≡ i = cc in
      let tail = rest j is in
      subst (λ (k : ℕ). (k < length (t ∷ ts)) × (value_in (map (variable_at a) (v ∷ vs)) (map (term_at a) (t ∷ ts)) (variable_at a m) ≡ Some (term_at a (get_or (t ∷ ts) k 0)))) next
      (omega arith, at_other a distinct v m _ _ h p below ∙ tail.1)

  -- the number at the place of a variable is that of its term
  found_at : (vs ts : List ℕ) (m i : ℕ) → All (IsVariableAt a) vs → IsVariableAt a m → length vs ≡ length ts → place nat_cmp m vs ≡ Ok i
      → (i < length ts) × (value_in (map (variable_at a) vs) (map (term_at a) ts) (variable_at a m) ≡ Some (term_at a (get_or ts i 0)))
  found_at [] ts m i h p l e = cc
  found_at (v ∷ vs) [] m i h p l e = absurd (omega arith)
  found_at (v ∷ vs) (t ∷ ts) m i h p l e =
      elim (nat_cmp v m) as (λ r. nat_cmp v m ≡ r → place_by r (place nat_cmp m vs) ≡ Ok i
      → (i < length (t ∷ ts)) × (value_in (map (variable_at a) (v ∷ vs)) (map (term_at a) (t ∷ ts)) (variable_at a m) ≡ Some (term_at a (get_or (t ∷ ts) i 0)))) [
        | Less ↦ λ below found. after_first v vs t ts m i (λ j is. found_at vs ts m j (All-tail (IsVariableAt a) v vs h) p (omega arith) is) (All-head (IsVariableAt a) v vs h) p below (place nat_cmp m vs) refl found
        | Equal ↦ λ tied found.
            let same : v ≡ m = fin.nat_cmp-IsAntisymmetric v m tied in
            let first : 0 ≡ i = cc in
            subst (λ (j : ℕ). (j < length (t ∷ ts)) × (value_in (map (variable_at a) (v ∷ vs)) (map (term_at a) (t ∷ ts)) (variable_at a m) ≡ Some (term_at a (get_or (t ∷ ts) j 0)))) first
            (omega arith, subst (λ (k : ℕ). value_in (map (variable_at a) (v ∷ vs)) (map (term_at a) (t ∷ ts)) (variable_at a k) ≡ Some (term_at a t)) same (at_first a distinct v _ _))
        | Greater ↦ λ above found. cc
      ] refl e

  map_is : (n : ℕ) (vs ts : List ℕ) → IsKeyAt a n (Map vs ts) → map_at a n ≡ bindings (map (variable_at a) vs) (map (term_at a) ts)
  map_is n vs ts k = is_map a n _ k.stands

  pub image_found : (n m i : ℕ) (vs ts : List ℕ) → IsKeyAt a n (Map vs ts) → IsVariableAt a m → Ok i ≡ place nat_cmp m vs
      → (i < length ts) × HasTerm a (get_or ts i 0) (image_term (fin.get (map_at a n)) (fol.free (variable_at a m)))
  image_found n m i vs ts k p e =
      let found = found_at vs ts m i k.parts.variables.members p k.parts.lengths (sym e) in
      let value = ap (λ o. fin.get o (variable_at a m)) (map_is n vs ts k) ∙ get-bindings _ _ (variable_at a m) ∙ found.1 in
      (found.0, k.parts.values i 0 found.0 ∙ ap (λ o. Some (term (unwrap_or o (fol.free (variable_at a m))))) (sym value))

  pub image_missed : (n m i : ℕ) (vs ts : List ℕ) → IsKeyAt a n (Map vs ts) → IsVariableAt a m → Err i ≡ place nat_cmp m vs
      → HasTerm a m (image_term (fin.get (map_at a n)) (fol.free (variable_at a m)))
  image_missed n m i vs ts k p e =
      let rises = k.parts.variables.rises in
      let members = k.parts.variables.members in
      let out : is_some (fin.get (bindings (map (variable_at a) vs) (map (term_at a) ts)) (variable_at a m)) ≡ false =
      is_some-bindings _ _ (variable_at a m) (same_lengths (variable_at a) (term_at a) vs ts k.parts.lengths)
      ∙ found_by_number var_total var_ties (variable_at a) (IsVariableAt a) (one_variable a distinct) m vs p members
      ∙ sym (has-of_rising nat_cmp vs rises m) ∙ sym (has-place nat_cmp nat_cmp_total m vs rises) ∙ ap is_ok (sym e) in
      let value = ap (λ o. fin.get o (variable_at a m)) (map_is n vs ts k) ∙ none_of _ out in
      p ∙ ap (λ o. Some (term (unwrap_or o (fol.free (variable_at a m))))) (sym value)

  pub variable_changed : (o : Operation) (n : ℕ) → IsVariableAt a n → changed o (item_at a n) ≡ term (on_term o (fol.free (variable_at a n)))
  variable_changed o n h = ap (changed o) (item_is a n _ h)

  pub bound_here : (v n k : ℕ) → IsVariableAt a n → v ≡ n → changed (binding (variable_at a v) k) (item_at a n) ≡ term (fol.bound k)
  bound_here v n k h e =
      variable_changed (binding (variable_at a v) k) n h
      ∙ ap (λ (m : ℕ). term (bind_term_at (variable_at a m) k (fol.free (variable_at a n)))) e
      ∙ ap (λ b. term (if b then fol.bound k else fol.free (variable_at a n))) (ap is_eq (tied_itself var_total (variable_at a n)))

  apart : (v n : ℕ) → (v ≡ n → ⊥) → (b : Bool) → eq_by_cmp nat_cmp v n ≡ b → b ≡ false
  apart v n other true e = absurd (other (fin.nat_cmp-IsAntisymmetric v n ((Equal-is (nat_cmp v n)).0 e)))
  apart v n other false e = refl

  pub bound_elsewhere : (v n k : ℕ) → IsVariableAt a v → IsVariableAt a n → (v ≡ n → ⊥) → changed (binding (variable_at a v) k) (item_at a n) ≡ term (fol.free (variable_at a n))
  bound_elsewhere v n k p h other =
      variable_changed (binding (variable_at a v) k) n h
      ∙ ap (λ b. term (if b then fol.bound k else fol.free (variable_at a n)))
      (same_test var_total var_ties (variable_at a) (IsVariableAt a) (one_variable a distinct) v n p h ∙ apart v n other (eq_by_cmp nat_cmp v n) refl)
