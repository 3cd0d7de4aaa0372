-- The next number on a way, and shortest cycles.
use Rattle.std.proofs.Common.{◌≡◌, ℕ, zero, suc, ◌+◌, ◌-◌, ◌<◌, ◌≤◌, Bool, true, false, ◌&&◌, ◌||◌, cond, List, [], ◌∷◌, ◌++◌, take, length, get_or, eqb, ltb, refl, sym, ap, ◌∙◌, arith, min}
use Rattle.std.specs.Prelude.{Option, Some, None, is_some}
use Rattle.std.specs.Option.{option_map, option_map_or, option_and_then}
use Rattle.std.specs.List.{list_any, find, range_with_len}
use Rattle.std.proofs.lemmas.Bool.{and_parts}
use Rattle.std.proofs.lemmas.Bool.Decides.{nat_tests}
use Rattle.std.proofs.lemmas.List.{append_assoc}
use Rattle.std.proofs.lemmas.List.Folds.{list_any_more}
use Rattle.std.proofs.Math.Bool.{or-false}
use Rattle.std.proofs.lemmas.List.FromFn.{length-range_with_len}
use Rattle.lk_rules.proofs.Subsequents.{and_right}
use Rattle.search_laws.proofs.Tests.{split, fails, clash, same_truth}
use Rattle.expansion_laws.specs.Cycles.{leads, fewest, way, cycle_from, first_cycle}
use Rattle.exp_check.specs.Links.{is_link, has_link}
use Rattle.exp_check.specs.Distances.{leads_to, AreDistances, AreMeasured}
use Rattle.exp_check.specs.declared.links.Link.{Link}
use Rattle.expansion_laws.proofs.Found.{found_passes, none_passes, first_is, found_within, no_number, number_passes, same_first}
use Rattle.exp_check.proofs.RankLaws.{eqb_is, eqb_of, eqb_not}
use Rattle.exp_check.proofs.DistanceLaws.{either_number, within_known, longer}

ltb_is : (m n : ℕ) → ltb m n ≡ true → m < n
ltb_is m n e = grind (arith, nat_tests)

ltb_of : (m n : ℕ) → m < n → ltb m n ≡ true
ltb_of m n e = grind (arith, nat_tests)

-- what the test says of the numbers before the first one that passes
before_found : (p : ℕ → Bool) (a n i : ℕ) → find p (range_with_len a n) ≡ Some i → (k : ℕ) → a ≤ k → k < i → p k ≡ false
before_found p a zero i e k low high = cc
before_found p a (suc n) i e k low high =
    elim (p a) as (λ b. p a ≡ b → cond b (Some a) (find p (range_with_len (a + 1) n)) ≡ Some i → p k ≡ false) [
      | true ↦ λ h e. let same : a ≡ i = cc in absurd (omega arith)
      | false ↦ λ h e.
          split (eqb a k)
          (λ is. ap p (sym (eqb_is a k is)) ∙ h)
          (λ other.
          let apart : (a ≡ k) → ⊥ = λ is. clash (eqb a k) (eqb_of a k is) other in
          before_found p (a + 1) n i e k (omega (arith, apart)) high)
    ] refl e

-- one of two numbers
abbrev pub lesser : ℕ → Option ℕ → ℕ
lesser a o = option_map_or (λ m. min m a) o a

or_same : (p : Bool) (a j : ℕ) → ((a ≡ j) → ⊥) → (p || eqb a j) ≡ p
or_same true a j h = refl
or_same false a j h = eqb_not a j h

or_here : (p : Bool) (a j : ℕ) → a ≡ j → (p || eqb a j) ≡ true
or_here true a j h = refl
or_here false a j h = eqb_of a j h

-- the first number that passes a test or is another one
pub first_or : (p : ℕ → Bool) (n a : ℕ) → a < n → (o : Option ℕ) → find p (range_with_len 0 n) ≡ o → find (λ j. p j || eqb a j) (range_with_len 0 n) ≡ Some (lesser a o)
first_or p n a within None e =
    first_is (λ j. p j || eqb a j) 0 n a (omega arith) (omega arith) (or_here (p a) a a refl)
    (λ k low less.
    or_same (p k) a k (λ same. absurd (omega arith))
    ∙ fails (p k) (λ h. absurd (clash (list_any p (range_with_len 0 n)) (number_passes p 0 n k low (omega arith) h) (none_passes p (range_with_len 0 n) e))))
first_or p n a within (Some m) e =
    let in_m : m < 0 + n = found_within p 0 n m e in
    split (ltb m a)
    (λ less.
    let lower : m < a = ltb_is m a less in
    let is : min m a ≡ m = omega arith in
    first_is (λ j. p j || eqb a j) 0 n m (omega arith) in_m (ap (λ b. b || eqb a m) (found_passes p (range_with_len 0 n) m e))
    (λ k low before. or_same (p k) a k (λ same. absurd (omega arith)) ∙ before_found p 0 n m e k low before)
    ∙ ap Some (sym is))
    (λ not_less.
    let no : (m < a) → ⊥ = λ less. clash (ltb m a) (ltb_of m a less) not_less in
    let is : min m a ≡ a = omega (arith, no) in
    first_is (λ j. p j || eqb a j) 0 n a (omega arith) (omega arith) (or_here (p a) a a refl)
    (λ k low before. or_same (p k) a k (λ same. absurd (omega arith)) ∙ before_found p 0 n m e k low (omega (arith, no)))
    ∙ ap Some (sym is))

always : (b : Bool) → (b || true) ≡ true
always true = refl
always false = refl

taken : (a b d : Bool) → (b ≡ true → d ≡ true) → ((a || b) && d) ≡ ((a && d) || b)
taken true true d h = h refl ∙ sym (always d)
taken true false d h = sym (or-false d)
taken false true d h = h refl
taken false false d h = refl

untaken : (a b d : Bool) → (b ≡ true → d ≡ false) → ((a || b) && d) ≡ (a && d)
untaken true b d h = refl
untaken false true d h = h refl
untaken false false d h = refl

module _ (ls : List Link) (number distance : ℕ) (ds : List ℕ) where
  -- what a list of links says of the next number
  abbrev pub next_by : List Link → ℕ → Bool
  next_by ms j = has_link ms number j && eqb (get_or ds j 0) distance

  more_links : (i : ℕ) (d : Link) (j : ℕ) → i < length ls → has_link (take (i + 1) ls) number j ≡ (has_link (take i ls) number j || is_link number j (get_or ls i d))
  more_links i d j in_i = list_any_more (is_link number j) ls i d in_i

  one_more : (i : ℕ) (d : Link) (j : ℕ) → i < length ls → eqb (get_or ls i d).before number ≡ true → get_or ds (get_or ls i d).after 0 ≡ distance → next_by (take (i + 1) ls) j ≡ (next_by (take i ls) j || eqb (get_or ls i d).after j)
  one_more i d j in_i from at =
      ap (λ b. b && eqb (get_or ds j 0) distance) (more_links i d j in_i ∙ ap (λ b. has_link (take i ls) number j || (b && eqb (get_or ls i d).after j)) from)
      ∙ taken (has_link (take i ls) number j) (eqb (get_or ls i d).after j) (eqb (get_or ds j 0) distance) (λ e. eqb_of (get_or ds j 0) distance (ap (λ k. get_or ds k 0) (sym (eqb_is (get_or ls i d).after j e)) ∙ at))

  none_more : (i : ℕ) (d : Link) (j : ℕ) → i < length ls → (eqb (get_or ls i d).before number && eqb (get_or ds (get_or ls i d).after 0) distance) ≡ false → next_by (take (i + 1) ls) j ≡ next_by (take i ls) j
  none_more i d j in_i off =
      ap (λ b. b && eqb (get_or ds j 0) distance) (more_links i d j in_i)
      ∙ untaken (has_link (take i ls) number j) (is_link number j (get_or ls i d)) (eqb (get_or ds j 0) distance)
      (λ e.
      let both = and_parts (eqb (get_or ls i d).before number) (eqb (get_or ls i d).after j) e in
      ap (λ k. eqb (get_or ds k 0) distance) (sym (eqb_is (get_or ls i d).after j both.1)) ∙ sym (ap (λ b. b && eqb (get_or ds (get_or ls i d).after 0) distance) both.0) ∙ off)

  -- one more link that leads on
  pub next_more : (i : ℕ) (d : Link) (n : ℕ) (o : Option ℕ) → i < length ls → (get_or ls i d).after < n → (eqb (get_or ls i d).before number && eqb (get_or ds (get_or ls i d).after 0) distance) ≡ true
      → o ≡ find (next_by (take i ls)) (range_with_len 0 n) → Some (lesser (get_or ls i d).after o) ≡ find (next_by (take (i + 1) ls)) (range_with_len 0 n)
  next_more i d n o in_i in_n leads so_far =
      let both = and_parts (eqb (get_or ls i d).before number) (eqb (get_or ds (get_or ls i d).after 0) distance) leads in
      sym (first_or (next_by (take i ls)) n (get_or ls i d).after in_n o (sym so_far))
      ∙ same_first (λ j. next_by (take i ls) j || eqb (get_or ls i d).after j) (next_by (take (i + 1) ls)) 0 n
      (λ j low high. sym (one_more i d j in_i both.0 (eqb_is (get_or ds (get_or ls i d).after 0) distance both.1)))

  -- one more that doesn't
  pub next_same : (i : ℕ) (d : Link) (n : ℕ) (o : Option ℕ) → i < length ls → (eqb (get_or ls i d).before number && eqb (get_or ds (get_or ls i d).after 0) distance) ≡ false
      → o ≡ find (next_by (take i ls)) (range_with_len 0 n) → o ≡ find (next_by (take (i + 1) ls)) (range_with_len 0 n)
  next_same i d n o in_i off so_far = so_far ∙ same_first (next_by (take i ls)) (next_by (take (i + 1) ls)) 0 n (λ j low high. sym (none_more i d j in_i off))

-- no link leads on before the first
pub next_none : (number distance n : ℕ) (ds : List ℕ) → None ≡ find (next_by [] number distance ds []) (range_with_len 0 n)
next_none number distance n ds = sym (no_number (next_by [] number distance ds []) 0 n (λ k low high. refl))

module _ (ls : List Link) (n z r : ℕ) (ds : List ℕ) (h : AreDistances ls n z r ds) where
  -- the numbers that lead on from one are those at the distance before its own
  next_passes : (q y j : ℕ) → y < n → get_or ds y 0 ≡ suc (suc q) → j < n → (has_link ls y j && eqb (get_or ds j 0) (suc q)) ≡ (has_link ls y j && leads_to ls n q j z)
  next_passes q y j in_y here in_j =
      split (has_link ls y j)
      (λ link.
      let exact = h.known y (suc q) in_y here in
      ap (λ b. has_link ls y j && b)
      (same_truth (eqb (get_or ds j 0) (suc q)) (leads_to ls n q j z)
      (λ at. (h.known j q in_j (eqb_is (get_or ds j 0) (suc q) at)).1)
      (λ e.
      let own = within_known ls n z r ds h j q in_j (omega (arith, exact.0)) e in
      let not_less : (own.0 < q) → ⊥ = λ less. clash (leads_to ls n (suc own.0) y z) (longer ls n z y j own.0 in_j link (h.known j own.0 in_j own.1).1) (exact.2 (suc own.0) (omega arith)) in
      let same : own.0 ≡ q = omega (arith, own.2, not_less) in
      eqb_of (get_or ds j 0) (suc q) (own.1 ∙ ap suc same))))
      (λ none. ap (λ b. b && eqb (get_or ds j 0) (suc q)) none ∙ sym (ap (λ b. b && leads_to ls n q j z) none))

  next_is : (q y : ℕ) → y < n → get_or ds y 0 ≡ suc (suc q)
      → find (λ j. has_link ls y j && eqb (get_or ds j 0) (suc q)) (range_with_len 0 n) ≡ find (λ w. has_link ls y w && leads_to ls n q w z) (range_with_len 0 n)
  next_is q y in_y here = same_first (λ j. has_link ls y j && eqb (get_or ds j 0) (suc q)) (λ w. has_link ls y w && leads_to ls n q w z) 0 n (λ j low high. next_passes q y j in_y here (omega arith))

  along_by : (q y w : ℕ) (cycle more whole : List ℕ) → y < n → get_or ds y 0 ≡ suc (suc q) → Some w ≡ find (λ j. has_link ls y j && eqb (get_or ds j 0) (suc q)) (range_with_len 0 n)
      → more ≡ cycle ++ w ∷ [] → cycle ++ way (has_link ls) (range_with_len 0 n) (suc q) y z ≡ whole
      → (w < n) × (get_or ds w 0 ≡ suc q) × (more ++ way (has_link ls) (range_with_len 0 n) q w z ≡ whole)
  along_by q y w cycle more whole in_y here found pushed so_far =
      let rest : List ℕ = way (has_link ls) (range_with_len 0 n) q w z in
      let passes = found_passes (λ j. has_link ls y j && eqb (get_or ds j 0) (suc q)) (range_with_len 0 n) w (sym found) in
      let step : way (has_link ls) (range_with_len 0 n) (suc q) y z ≡ w ∷ rest =
      ap (λ o. option_map_or (λ u. u ∷ way (has_link ls) (range_with_len 0 n) q u z) o []) (sym (next_is q y in_y here) ∙ sym found) in
      let within = found_within (λ j. has_link ls y j && eqb (get_or ds j 0) (suc q)) 0 n w (sym found) in (
        omega arith,
        eqb_is (get_or ds w 0) (suc q) (and_right (has_link ls y w) (eqb (get_or ds w 0) (suc q)) passes),
        ap (λ es. es ++ rest) pushed ∙ append_assoc cycle (w ∷ []) rest ∙ ap (λ es. cycle ++ es) (sym step) ∙ so_far,
      )

  -- one more number on the way
  pub along : (d y w : ℕ) (cycle more whole : List ℕ) → 1 < d → y < n → get_or ds y 0 ≡ d → Some w ≡ find (λ j. has_link ls y j && eqb (get_or ds j 0) (d - 1)) (range_with_len 0 n)
      → more ≡ cycle ++ w ∷ [] → cycle ++ way (has_link ls) (range_with_len 0 n) (d - 1) y z ≡ whole
      → (w < n) × (get_or ds w 0 ≡ d - 1) × (more ++ way (has_link ls) (range_with_len 0 n) (d - 1 - 1) w z ≡ whole)
  along zero y w cycle more whole less in_y here found pushed so_far = absurd (omega arith)
  along (suc zero) y w cycle more whole less in_y here found pushed so_far = absurd (omega arith)
  along (suc (suc q)) y w cycle more whole less in_y here found pushed so_far =
      let one : suc q ≡ suc (suc q) - 1 = omega arith in
      let two : q ≡ suc (suc q) - 1 - 1 = omega arith in
      let r = along_by q y w cycle more whole in_y here
      (found ∙ ap (λ k. find (λ j. has_link ls y j && eqb (get_or ds j 0) k) (range_with_len 0 n)) (sym one))
      pushed (ap (λ k. cycle ++ way (has_link ls) (range_with_len 0 n) k y z) one ∙ so_far) in
      (r.0, r.1 ∙ one, ap (λ k. more ++ way (has_link ls) (range_with_len 0 n) k w z) (sym two) ∙ r.2)

  -- there is always one
  pub next_there : (d y : ℕ) → 1 < d → y < n → get_or ds y 0 ≡ d → find (λ j. has_link ls y j && eqb (get_or ds j 0) (d - 1)) (range_with_len 0 n) ≡ None → ⊥
  next_there zero y less in_y here none = absurd (omega arith)
  next_there (suc zero) y less in_y here none = absurd (omega arith)
  next_there (suc (suc q)) y less in_y here none =
      let one : suc q ≡ suc (suc q) - 1 = omega arith in
      let exact = h.known y (suc q) in_y here in
      clash (leads_to ls n (suc q) y z) exact.1
      (none_passes (λ w. has_link ls y w && leads_to ls n q w z) (range_with_len 0 n)
      (sym (next_is q y in_y here) ∙ ap (λ k. find (λ j. has_link ls y j && eqb (get_or ds j 0) k) (range_with_len 0 n)) one ∙ none))

module _ (ls : List Link) (n z : ℕ) where
  -- a number that leads to itself by no so few
  pub none_fewest : ((k : ℕ) → k < n → leads_to ls n k z z ≡ false) → fewest (has_link ls) (range_with_len 0 n) z z ≡ None
  none_fewest none =
      let long = length-range_with_len 0 n in
      no_number (λ k. leads_to ls n k z z) 0 (length (range_with_len 0 n)) (λ k low high. none k (omega (arith, long)))

  module _ (ds : List ℕ) (h : AreMeasured ls n z ds) (in_z : z < n) where
    pub no_cycle_from : get_or ds z 0 ≡ 0 → None ≡ cycle_from (has_link ls) (range_with_len 0 n) z
    no_cycle_from e = sym (ap (option_map (λ k. z ∷ way (has_link ls) (range_with_len 0 n) k z z)) (none_fewest (h.none e)))

    some_cycle_by : (q : ℕ) → get_or ds z 0 ≡ suc q → Some (z ∷ way (has_link ls) (range_with_len 0 n) q z z) ≡ cycle_from (has_link ls) (range_with_len 0 n) z
    some_cycle_by q e =
        let exact = h.distances.known z q in_z e in
        let long = length-range_with_len 0 n in
        let few = h.few in
        sym
        (ap (option_map (λ k. z ∷ way (has_link ls) (range_with_len 0 n) k z z))
        (first_is (λ k. leads_to ls n k z z) 0 (length (range_with_len 0 n)) q (omega arith) (omega (arith, long, few, exact.0)) exact.1 (λ k low less. exact.2 k less)))

    pub some_cycle_from : (ns : List ℕ) → (get_or ds z 0 ≡ 0 → ⊥) → ns ≡ z ∷ way (has_link ls) (range_with_len 0 n) (get_or ds z 0 - 1) z z → Some ns ≡ cycle_from (has_link ls) (range_with_len 0 n) z
    some_cycle_from ns some is =
        either_number (get_or ds z 0) (λ none. absurd (some none))
        (λ q e.
        let one : get_or ds z 0 - 1 ≡ q = omega arith in
        ap Some (is ∙ ap (λ k. z ∷ way (has_link ls) (range_with_len 0 n) k z z) one) ∙ some_cycle_by q e)

pub is_some_map : {A B : Type 0} (f : A → B) (o : Option A) → is_some (option_map f o) ≡ is_some o
is_some_map f None = refl
is_some_map f (Some a) = refl

module _ (before : ℕ → ℕ → Bool) (n : ℕ) where
  -- whether a cycle begins at a number
  begins : (v : ℕ) → is_some (cycle_from before (range_with_len 0 n) v) ≡ is_some (fewest before (range_with_len 0 n) v v)
  begins v = is_some_map (λ k. v ∷ way before (range_with_len 0 n) k v v) (fewest before (range_with_len 0 n) v v)

  -- one more number at which none begins
  pub none_from : (o : Option (List ℕ)) (v : ℕ) → o ≡ cycle_from before (range_with_len 0 n) v → is_some o ≡ false → is_some (fewest before (range_with_len 0 n) v v) ≡ false
  none_from o v is none = sym (begins v) ∙ sym (ap is_some is) ∙ none

  -- the first number at which one begins
  pub first_from : (o : Option (List ℕ)) (v : ℕ) → v < n → o ≡ cycle_from before (range_with_len 0 n) v → is_some o ≡ true → ((i : ℕ) → i < v → is_some (fewest before (range_with_len 0 n) i i) ≡ false)
      → o ≡ first_cycle before (range_with_len 0 n)
  first_from o v in_n is some none =
      is
      ∙ sym (ap (option_and_then (cycle_from before (range_with_len 0 n)))
      (first_is (λ u. is_some (fewest before (range_with_len 0 n) u u)) 0 n v (omega arith) (omega arith) (sym (begins v) ∙ sym (ap is_some is) ∙ some) (λ k low less. none k less)))

  -- there is none
  pub none_first : ((i : ℕ) → i < n → is_some (fewest before (range_with_len 0 n) i i) ≡ false) → None ≡ first_cycle before (range_with_len 0 n)
  none_first none = sym (ap (option_and_then (cycle_from before (range_with_len 0 n))) (no_number (λ u. is_some (fewest before (range_with_len 0 n) u u)) 0 n (λ k low high. none k (omega arith))))

-- the way by the distances of a list that is the same
pub cycle_along_is : (ls : List Link) (n z : ℕ) (ds es ns : List ℕ) → es ≡ ds → length ds ≡ n → ns ≡ z ∷ way (has_link ls) (range_with_len 0 (length es)) (get_or es z 0 - 1) z z
    → ns ≡ z ∷ way (has_link ls) (range_with_len 0 n) (get_or ds z 0 - 1) z z
cycle_along_is ls n z ds es ns same count is =
    is ∙ ap (λ fs. z ∷ way (has_link ls) (range_with_len 0 (length fs)) (get_or fs z 0 - 1) z z) same ∙ ap (λ k. z ∷ way (has_link ls) (range_with_len 0 k) (get_or ds z 0 - 1) z z) count
