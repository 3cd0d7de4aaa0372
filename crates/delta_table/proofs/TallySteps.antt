-- Tallies, row by row.
use Rattle.std.proofs.Common.{◌≡◌, ℕ, zero, suc, ◌+◌, ◌<◌, ◌≤◌, Bool, true, false, cond, if◌then◌else◌, List, [], ◌∷◌, map, length, take, get_or, fold, Option, Some, None, refl, sym, ap, subst, ◌∙◌, arith}
use Rattle.std.specs.Prelude.{position, slice_set, slice_index_or}
use Rattle.std.specs.List.{All, AllByRecursion, IsDistinct, position_from}
use Rattle.std.proofs.lemmas.List.Elements.{All-nil, All-cons}
use Rattle.std.proofs.lemmas.List.Quantifiers.{position-Some}
use Rattle.std.proofs.lemmas.Iterator.Adapters.{position_from-zero}
use Rattle.std.proofs.lemmas.List.Sums.{fold_more}
use Rattle.number_hash.specs.Codes.{same_by_decides}
use Rattle.search_laws.proofs.Tests.{fails, clash}
use Rattle.numbered_terms.specs.NumberSets.{coded_numbers, same_numbers}
use Rattle.delta_table.specs.declared.founds.Found.{Found}
use Rattle.delta_table.specs.declared.tallies.Tally.{Tally}
use Rattle.delta_table.specs.FoundRows.{noted, nothing, tally_at, tallies_at, noted_at}

-- a place that is found is in the list
pub place_within : (keys : List (List ℕ)) (v : List ℕ) (at : ℕ) → Some at ≡ position (same_numbers v) keys → at < length keys
place_within keys v at e = (position-Some (same_numbers v) keys at [] (sym e)).0

same : (v w : List ℕ) → same_numbers v w ≡ true → v ≡ w
same v w = (same_by_decides coded_numbers v w).0

itself : (v w : List ℕ) → v ≡ w → same_numbers v w ≡ true
itself v w = (same_by_decides coded_numbers v w).1

-- none passes a test where there is no first place
none_from : (p : List ℕ → Bool) (i : ℕ) (keys : List (List ℕ)) → position_from p i keys ≡ None → AllByRecursion (λ k. p k ≡ false) keys
none_from p i [] e = tt
none_from p i (k ∷ ks) e = elim (p k) as (λ b. cond b (Some i) (position_from p (i + 1) ks) ≡ None → (b ≡ false) × AllByRecursion (λ x. p x ≡ false) ks) [
  | true ↦ λ d. cc
  | false ↦ λ d. (refl, none_from p (i + 1) ks d)
] e

-- a tally in which a row is noted where it has the values
abbrev step : List ℕ → Found → Tally → Tally
step k f t = if same_numbers f.values k then noted f.places t else t

-- a row is noted at its values alone
module _ (f : Found) (T : List ℕ → Tally) where
  none_noted : (keys : List (List ℕ)) → AllByRecursion (λ k. same_numbers f.values k ≡ false) keys → map T keys ≡ map (λ k. step k f (T k)) keys
  none_noted [] h = refl
  none_noted (k ∷ ks) h = λ i. (if sym h.0 i then noted f.places (T k) else T k) ∷ none_noted ks h.1 i

  others : (x : List ℕ) (keys : List (List ℕ)) → same_numbers f.values x ≡ true → AllByRecursion (λ y. same_numbers x y ≡ false) keys → AllByRecursion (λ k. same_numbers f.values k ≡ false) keys
  others x [] e h = tt
  others x (k ∷ ks) e h = (subst (λ v. same_numbers v k ≡ false) (sym (same f.values x e)) h.0, others x ks e h.1)

  apart : (x : List ℕ) (keys : List (List ℕ)) (i : ℕ) → i < length keys → same_numbers f.values (get_or keys i []) ≡ true → AllByRecursion (λ y. same_numbers x y ≡ false) keys → same_numbers f.values x ≡ false
  apart x [] i l e h = absurd (omega arith)
  apart x (k ∷ ks) zero l e h =
      fails (same_numbers f.values x) (λ g. clash (same_numbers x k) (itself x k (sym (same f.values x g) ∙ same f.values k e)) h.0)
  apart x (k ∷ ks) (suc i) l e h = apart x ks i (omega arith) e h.1

  at_place : (keys : List (List ℕ)) (i : ℕ) → IsDistinct same_numbers keys → i < length keys → same_numbers f.values (get_or keys i []) ≡ true
      → slice_set (map T keys) i (noted f.places (slice_index_or (map T keys) i nothing)) ≡ map (λ k. step k f (T k)) keys
  unfolding IsDistinct
  at_place [] i d l e = absurd (omega arith)
  at_place (k ∷ ks) zero d l e = λ i. (if sym e i then noted f.places (T k) else T k) ∷ none_noted ks (others k ks e d.0) i
  at_place (k ∷ ks) (suc i) d l e =
      λ j. (if sym (apart k ks i (omega arith) e d.0) j then noted f.places (T k) else T k) ∷ at_place ks i d.1 (omega arith) e j

  by_place : (keys : List (List ℕ)) → IsDistinct same_numbers keys → (o : Option ℕ) → position (same_numbers f.values) keys ≡ o → noted_at f o (map T keys) ≡ map (λ k. step k f (T k)) keys
  by_place keys d None e = none_noted keys (none_from (same_numbers f.values) 0 keys (sym (position_from-zero (same_numbers f.values) keys) ∙ e))
  by_place keys d (Some i) e =
      let found = position-Some (same_numbers f.values) keys i [] e in
      at_place keys i d found.0 found.1

  pub key_noted : (keys : List (List ℕ)) → IsDistinct same_numbers keys → noted_at f (position (same_numbers f.values) keys) (map T keys) ≡ map (λ k. step k f (T k)) keys
  key_noted keys d = by_place keys d (position (same_numbers f.values) keys) refl

-- the tallies with one row more
pub tallies_more : (keys : List (List ℕ)) (rows : List Found) (k : ℕ) (f : Found) → IsDistinct same_numbers keys → k < length rows → f ≡ get_or rows k f
    → noted_at f (position (same_numbers f.values) keys) (tallies_at keys (take k rows)) ≡ tallies_at keys (take (k + 1) rows)
tallies_more keys rows k f d low e =
    key_noted f (λ w. tally_at w (take k rows)) keys d
    ∙ λ i. map (λ w. sym (fold_more (λ t g. step w g t) nothing rows k f low ∙ ap (λ g. step w g (tally_at w (take k rows))) (sym e)) i) keys

-- a tally has no more rows than there are
module _ (w : List ℕ) where
  few_rows : (fs : List Found) (t : Tally) → (fold (λ t f. step w f t) t fs).rows ≤ t.rows + length fs
  few_rows [] t = omega arith
  few_rows (f ∷ fs) t = elim (same_numbers f.values w) as (λ b. (fold (λ t f. step w f t) (if b then noted f.places t else t) fs).rows ≤ t.rows + length (f ∷ fs)) [
    | true ↦ let below = few_rows fs (noted f.places t) in omega arith
    | false ↦ let below = few_rows fs t in omega arith
  ]

pub tally_within : (w : List ℕ) (fs : List Found) → (tally_at w fs).rows ≤ length fs
tally_within w fs = let below = few_rows w fs nothing in omega arith

pub tallies_within : (keys : List (List ℕ)) (fs : List Found) (n : ℕ) → length fs ≤ n → All (λ t. t.rows ≤ n) (tallies_at keys fs)
tallies_within [] fs n h = All-nil _
tallies_within (w ∷ ws) fs n h = All-cons (λ (t : Tally). t.rows ≤ n) (tally_at w fs) (tallies_at ws fs) (let below = tally_within w fs in omega arith) (tallies_within ws fs n h)
