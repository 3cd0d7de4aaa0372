-- The rows of chosen tuples and others, step by step.
use Rattle.std.proofs.Common.{◌≡◌, ℕ, suc, ◌+◌, ◌^◌, ◌<◌, ◌≤◌, Bool, true, false, ◌&&◌, if◌then◌else◌, List, [], ◌∷◌, ◌++◌, map, length, take, drop, get_or, Option, None, option_map, Result, Ok, IfOk, bit_or, nat_lt, nat_le, ⊎_elim, refl, sym, ap, subst, ◌∙◌, arith, append_assoc, append-nil, length-append, length-drop}
use Rattle.std.specs.List.{filter_map, cons_option}
use Rattle.std.specs.Int.Bits.{or_zero_r}
use Rattle.std.proofs.lemmas.Bool.{cases_lt, lt-ltb, le-ltb, le-leb, lt-leb}
use Rattle.std.proofs.lemmas.List.{drop_more, at_drop_all, get_or-drop}
use Rattle.std.proofs.lemmas.List.Elements.{filter_map-append}
use Rattle.fol.specs.Syntax.{Terms, nil}
use Rattle.herbrand_laws.specs.Patterns.{delta}
use Rattle.delta_table.specs.Places.{placed}
use Rattle.delta_table.specs.FoundRows.{PlacedRow, is_few, few_row, found_row, found_at, founds_after, founds_from}
use Rattle.delta_table.proofs.PlaceSets.{or_assoc}

pub filter_map-map : {X Y Z : Type 0} (h : Y → Option Z) (g : X → Y) (xs : List X) → filter_map h (map g xs) ≡ filter_map (λ x. h (g x)) xs
filter_map-map h g [] = refl
filter_map-map h g (x ∷ xs) = ap (cons_option (h (g x))) (filter_map-map h g xs)

filter_map_none : {X Y : Type 0} (h : X → Option Y) → ((x : X) → h x ≡ None) → (xs : List X) → filter_map h xs ≡ []
filter_map_none h f [] = refl
filter_map_none h f (x ∷ xs) = (λ i. cons_option (f x i) (filter_map h xs)) ∙ filter_map_none h f xs

-- a sublist with an element before it
abbrev pub with_head : ℕ → Terms → List Terms × ℕ → List Terms × ℕ
with_head k x s = (x ∷ s.0, bit_or (2 ^ k) s.1)

module _ (width : ℕ) where
  abbrev one_row : List Terms → ℕ → List PlacedRow
  one_row chosen places = cons_option (option_map (found_row places) (few_row width chosen)) []

  -- with no other tuple
  pub founds_none : (chosen : List Terms) (places k : ℕ) → founds_after width chosen places k [] ≡ cons_option (option_map (found_row places) (few_row width chosen)) []
  founds_none chosen places k = λ i. cons_option (option_map (found_row (or_zero_r places i)) (few_row width (append-nil chosen i))) []

  -- with the first of the others, or without it
  pub founds_more : (chosen : List Terms) (places k : ℕ) (x : Terms) (xs : List Terms)
      → founds_after width chosen places k (x ∷ xs) ≡ founds_after width (chosen ++ x ∷ []) (bit_or places (2 ^ k)) (k + 1) xs ++ founds_after width chosen places (k + 1) xs
  founds_more chosen places k x xs =
      let more = with_head k x in
      let ps = placed (k + 1) xs in
      filter_map-append (found_at width chosen places) (map more ps) ps
      ∙ ap (λ fs. fs ++ founds_after width chosen places (k + 1) xs)
      (filter_map-map (found_at width chosen places) more ps
      ∙ λ i. filter_map (λ s. option_map (found_row (sym (or_assoc places (2 ^ k) s.1) i)) (few_row width (sym (append_assoc chosen (x ∷ []) s.0) i))) ps)

  -- the test of the code
  pub few_test : (n : ℕ) → (nat_lt 1 n && nat_le n width) ≡ is_few width n
  few_test n =
      ap (λ b. nat_lt 1 n && b)
      (⊎_elim {C = nat_le n width ≡ nat_lt n (suc width)}
      (λ over. lt-leb n width over ∙ sym (le-ltb n (suc width) (omega arith)))
      (λ within. le-leb n width within ∙ sym (lt-ltb n (suc width) (omega arith)))
      (cases_lt width n))

  no_few : (n : ℕ) → width < n → is_few width n ≡ false
  no_few n h = ap (λ b. nat_lt 1 n && b) (le-ltb n (suc width) (omega arith)) ∙ and_false (nat_lt 1 n)
    where
      and_false : (b : Bool) → (b && false) ≡ false
      and_false true = refl
      and_false false = refl

  no_row : (uss : List Terms) → width < length uss → few_row width uss ≡ None
  no_row uss h = ap (λ b. if b then delta uss else None) (no_few (length uss) h)

  none_over : (chosen : List Terms) (places k : ℕ) (xs : List Terms) → width < length chosen → founds_after width chosen places k xs ≡ []
  none_over chosen places k xs h =
      filter_map_none (found_at width chosen places)
      (λ s. ap (option_map (found_row (bit_or places s.1))) (no_row (chosen ++ s.0) (let both = length-append chosen s.0 in omega arith)))
      (placed k xs)

  -- where no more may be chosen
  pub founds_full : (chosen : List Terms) (places k : ℕ) (xs : List Terms) → length chosen ≡ width → founds_after width chosen places k xs ≡ cons_option (option_map (found_row places) (few_row width chosen)) []
  founds_full chosen places k [] h = founds_none chosen places k
  founds_full chosen places k (x ∷ xs) h =
      founds_more chosen places k x xs
      ∙ ((λ i. none_over (chosen ++ x ∷ []) (bit_or places (2 ^ k)) (k + 1) xs (let both = length-append chosen (x ∷ []) in omega arith) i ++ founds_after width chosen places (k + 1) xs)
      ∙ founds_full chosen places (k + 1) xs h)

  pub founds_end : (chosen : List Terms) (places at : ℕ) (tuples : List Terms) → length tuples ≤ at → founds_after width chosen places at (drop at tuples) ≡ cons_option (option_map (found_row places) (few_row width chosen)) []
  founds_end chosen places at tuples h = at_drop_all (founds_after width chosen places at) tuples at h ∙ founds_none chosen places at

  founds_step : (chosen : List Terms) (places at : ℕ) (tuples : List Terms) (d : Terms) → at < length tuples
      → founds_after width chosen places at (drop at tuples) ≡ founds_after width (chosen ++ get_or tuples at d ∷ []) (bit_or places (2 ^ at)) (at + 1) (drop (at + 1) tuples) ++ founds_after width chosen places (at + 1) (drop (at + 1) tuples)
  founds_step chosen places at tuples d h = ap (founds_after width chosen places at) (drop_more tuples at d h) ∙ founds_more chosen places at (get_or tuples at d) (drop (at + 1) tuples)

  -- rows with a tuple, and then those without it
  pub rows_joined : (chosen : List Terms) (places at : ℕ) (tuples : List Terms) (x : Terms) (r s t : List PlacedRow) (pushed cut : List Terms) (more : ℕ) → at < length tuples
      → pushed ≡ chosen ++ x ∷ [] → x ≡ get_or tuples at x → more ≡ bit_or places (2 ^ at) → cut ≡ chosen
      → s ≡ r ++ founds_after width pushed more (at + 1) (drop (at + 1) tuples) → t ≡ s ++ founds_after width cut places (at + 1) (drop (at + 1) tuples)
      → t ≡ r ++ founds_after width chosen places at (drop at tuples)
  rows_joined chosen places at tuples x r s t pushed cut more h p e m q first second =
      let rest = drop (at + 1) tuples in
      let with_this = p ∙ ap (λ y. chosen ++ y ∷ []) e in
      second
      ∙ ((λ i. first i ++ founds_after width (q i) places (at + 1) rest)
      ∙ (append_assoc r (founds_after width pushed more (at + 1) rest) (founds_after width chosen places (at + 1) rest)
      ∙ ap (λ fs. r ++ fs) ((λ i. founds_after width (with_this i) (m i) (at + 1) rest ++ founds_after width chosen places (at + 1) rest) ∙ sym (founds_step chosen places at tuples x h))))

  -- the rows by their first tuples
  pub founds_split : (tuples : List Terms) (at : ℕ) → at < length tuples
      → founds_after width [] 0 at (drop at tuples) ≡ founds_from width tuples at ++ founds_after width [] 0 (at + 1) (drop (at + 1) tuples)
  founds_split tuples at h =
      let rest = drop (at + 1) tuples in
      let begins : drop at tuples ≡ get_or tuples at nil ∷ rest = drop_more tuples at nil h in
      ap (founds_after width [] 0 at) begins
      ∙ (founds_more [] 0 at (get_or tuples at nil) rest
      ∙ λ i. founds_after width (take 1 (sym begins i)) (bit_or 0 (2 ^ at)) (at + 1) rest ++ founds_after width [] 0 (at + 1) rest)

-- parts of which each has the rows of one first tuple

module _ {A E : Type 0} (P : ℕ → A → Type 0) where
  -- the first of those that are left
  pub next_part : (at : ℕ) (parts : List (Result A E)) (part : A) → 0 < length parts
      → ((k : ℕ) (d : Result A E) → k < length parts → IfOk (get_or parts k d) (P (at + k)))
      → Ok part ≡ get_or parts 0 (Ok part) → P at part
  next_part at parts part l each e =
      let here : P (at + 0) part = subst (λ r. IfOk r (P (at + 0))) (sym e) (each 0 (Ok part) l) in
      let same : at + 0 ≡ at = omega arith in
      subst (λ n. P n part) same here

  pub later_parts : (at : ℕ) (parts : List (Result A E))
      → ((k : ℕ) (d : Result A E) → k < length parts → IfOk (get_or parts k d) (P (at + k)))
      → (k : ℕ) (d : Result A E) → k < length (drop 1 parts) → IfOk (get_or (drop 1 parts) k d) (P (at + 1 + k))
  later_parts at parts each k d l =
      let shorter = length-drop 1 parts in
      let same : at + (1 + k) ≡ at + 1 + k = omega arith in
      subst (λ r. IfOk r (P (at + 1 + k))) (sym (get_or-drop 1 parts k d))
      (subst (λ n. IfOk (get_or parts (1 + k) d) (P n)) same (each (1 + k) d (omega arith)))
