-- Sides by numbers: which formulas they have, one more and one fewer, and the first one that passes a test.
use Rattle.std.proofs.Common.{◌≡◌, ◌≢◌, ℕ, zero, suc, ◌+◌, ◌<◌, Bool, true, false, not, ◌&&◌, ◌||◌, cond, eqb, List, [], ◌∷◌, filter, length, Option, Some, None, IfSome, IsNone, inl, inr, refl, sym, ap, subst, ◌∙◌, arith}
use Rattle.std.specs.Prelude.{find, option_map}
use Rattle.std.specs.Ordering.{eq_by_cmp, is_eq}
use Rattle.std.proofs.lemmas.Bool.{cases_eq, cases_order, eq-eqb, ne_eqb}
use Rattle.std.proofs.lemmas.List.Kept.{IsStrictlySortedBy-filter}
use Rattle.std.proofs.lemmas.List.Sums.{position_or_len_is}
use Rattle.std.proofs.lemmas.Map.Views.{any-filter_same}
use Rattle.fol.specs.Syntax.{Formula, top}
use Rattle.fol.specs.Order.{formula_cmp}
use Rattle.fol.specs.OrderLaws.{formula_total}
use Rattle.fol.proofs.OrderTies.{formula_ties}
use Rattle.finite.specs.Finite as set
use Rattle.finite.proofs.Finite.{has-adds, has-of_rising, listing-of_rising, same_members}
use Rattle.finite.proofs.Rising.{rising_at}
use Rattle.free_variables.proofs.RisingLists.{rising_of_strict, strict_of_rising}
use Rattle.lk_rules.specs.Formulas.{FormulaSet}
use Rattle.lk_rules.proofs.Listings.{equal_either_way}
use Rattle.lk_rules.proofs.Subsequents.{and_left, and_right}
use Rattle.proof_trees.proofs.Booleans.{or_first, or_second, either}
use Rattle.proof_trees.specs.FormulaSets.{without}
use Rattle.proof_trees.proofs.FormulaSets.{equal, tied, without_member}
use Rattle.search_laws.proofs.Listed.{kept}
use Rattle.search_laws.proofs.Tests.{split, clash, not_true, same_truth}
use Rattle.prop_search.specs.Formulas.{formula_at, number_of, is_listed, side_of}

-- the formula at a place of a list is listed
pub listed_at : (fs : List Formula) (n : ℕ) → n < length fs → is_listed fs (formula_at fs n) ≡ true
listed_at [] n l = absurd (omega arith)
listed_at (f ∷ fs) zero l = or_first (eq_by_cmp formula_cmp f f) (is_listed fs f) (tied f f refl)
listed_at (f ∷ fs) (suc n) l = or_second (eq_by_cmp formula_cmp (formula_at fs n) f) (is_listed fs (formula_at fs n)) (listed_at fs n (omega arith))

-- a listed formula is at its number
pub at_number : (fs : List Formula) (f : Formula) → is_listed fs f ≡ true → (number_of fs f < length fs) × (formula_at fs (number_of fs f) ≡ f)
at_number [] f m = cc
at_number (g ∷ gs) f m =
    elim (eq_by_cmp formula_cmp f g) as (λ b. eq_by_cmp formula_cmp f g ≡ b → (b || is_listed gs f) ≡ true → (cond (not b) (1 + number_of gs f) 0 < length (g ∷ gs)) × (formula_at (g ∷ gs) (cond (not b) (1 + number_of gs f) 0) ≡ f)) [
      | true ↦ λ e later. (omega arith, sym (equal f g e))
      | false ↦ λ e later.
          let h = at_number gs f later in
          let next : suc (number_of gs f) ≡ 1 + number_of gs f = omega arith in
          (omega (arith, h.0), subst (λ k. formula_at (g ∷ gs) k ≡ f) next h.1)
    ] refl m

module _ (fs : List Formula) (up : set.IsRising formula_cmp fs) where
  -- formulas at different places differ
  apart : (m n : ℕ) → m < length fs → n < length fs → m ≢ n → eq_by_cmp formula_cmp (formula_at fs m) (formula_at fs n) ≡ false
  apart m n l k other =
      elim (cases_order m n) [
        | inl e ↦ absurd (other e)
        | inr h ↦ elim h [
          | inl less ↦ ap is_eq (rising_at formula_cmp fs up m n top less k)
          | inr more ↦ equal_either_way (formula_at fs m) (formula_at fs n) ∙ ap is_eq (rising_at formula_cmp fs up n m top more l)
        ]
      ]

  -- so formulas are compared by their numbers
  pub compared : (m n : ℕ) → m < length fs → n < length fs → eq_by_cmp formula_cmp (formula_at fs m) (formula_at fs n) ≡ eqb m n
  compared m n l k =
      elim (cases_eq m n) [
        | inl e ↦ tied (formula_at fs m) (formula_at fs n) (ap (formula_at fs) e) ∙ sym (eq-eqb m n e)
        | inr e ↦ apart m n l k e ∙ sym (ne_eqb m n e)
      ]

  -- and the place of a formula is its number
  pub number_at : (n : ℕ) → n < length fs → number_of fs (formula_at fs n) ≡ n
  number_at n l =
      position_or_len_is (eq_by_cmp formula_cmp (formula_at fs n)) fs n top (omega arith)
      (λ k below. apart n k l (omega arith) (omega arith))
      (λ _. tied (formula_at fs n) (formula_at fs n) refl)

  module _ (test : ℕ → Bool) where
    abbrev passes : Formula → Bool
    passes f = test (number_of fs f)

    picked_rises : set.IsRising formula_cmp (filter passes fs)
    picked_rises = rising_of_strict formula_cmp _ (IsStrictlySortedBy-filter formula_cmp passes fs (strict_of_rising formula_cmp fs up))

    -- the formulas of a side in order
    pub listing-side : set.listing (side_of fs test) ≡ filter (λ f. test (number_of fs f)) fs
    unfolding side_of
    listing-side = listing-of_rising formula_cmp _ picked_rises

    -- a side has just the listed formulas whose numbers pass
    pub has-side : (q : Formula) → set.has (side_of fs test) q ≡ (test (number_of fs q) && is_listed fs q)
    unfolding side_of
    has-side q =
        has-of_rising formula_cmp _ picked_rises q
        ∙ any-filter_same (eq_by_cmp formula_cmp q) passes (passes q) (λ f e. ap passes (sym (equal q f e))) fs

    pub has-side_at : (n : ℕ) → n < length fs → set.has (side_of fs test) (formula_at fs n) ≡ test n
    has-side_at n l =
        has-side (formula_at fs n) ∙ (λ i. test (number_at n l i) && listed_at fs n l i) ∙ and_one (test n)
      where
        and_one : (b : Bool) → (b && true) ≡ b
        and_one true = refl
        and_one false = refl

  -- a set whose members are listed is the side of the numbers that it has
  pub side_is : (test : ℕ → Bool) (s : FormulaSet) → ((q : Formula) → set.has s q ≡ true → is_listed fs q ≡ true) → ((n : ℕ) → n < length fs → test n ≡ set.has s (formula_at fs n)) → side_of fs test ≡ s
  side_is test s listed same =
      same_members formula_total formula_ties (side_of fs test) s (λ q.
      split (is_listed fs q)
      (λ m.
      let at = at_number fs q m in
      ap (set.has (side_of fs test)) (sym at.1) ∙ has-side_at test (number_of fs q) at.0 ∙ same (number_of fs q) at.0 ∙ ap (set.has s) at.1)
      (λ m.
      has-side test q ∙ ap (λ b. test (number_of fs q) && b) m ∙ none (test (number_of fs q))
      ∙ sym (fails_unlisted q m)))
    where
      none : (b : Bool) → (b && false) ≡ false
      none true = refl
      none false = refl

      fails_unlisted : (q : Formula) → is_listed fs q ≡ false → set.has s q ≡ false
      fails_unlisted q m = split (set.has s q) (λ h. clash (is_listed fs q) (listed q h) m) (λ h. h)

  listed_side : (test : ℕ → Bool) (q : Formula) → set.has (side_of fs test) q ≡ true → is_listed fs q ≡ true
  listed_side test q m = and_right (test (number_of fs q)) _ (sym (has-side test q) ∙ m)

  -- sides whose tests answer alike are equal
  pub same_side : (test more : ℕ → Bool) → ((n : ℕ) → n < length fs → more n ≡ test n) → side_of fs more ≡ side_of fs test
  same_side test more same = side_is more (side_of fs test) (listed_side test) (λ n l. same n l ∙ sym (has-side_at test n l))

  -- a side with one more number has one more formula
  pub side-insert : (test more : ℕ → Bool) (k : ℕ) → k < length fs → ((n : ℕ) → n < length fs → more n ≡ (eqb n k || test n)) → side_of fs more ≡ set.adds (side_of fs test) (formula_at fs k)
  side-insert test more k within now =
      side_is more (set.adds (side_of fs test) (formula_at fs k))
      (λ q m.
      either (eq_by_cmp formula_cmp q (formula_at fs k)) (set.has (side_of fs test) q)
      (λ e. ap (is_listed fs) (equal q (formula_at fs k) e) ∙ listed_at fs k within)
      (listed_side test q)
      (sym (has-adds formula_total (side_of fs test) (formula_at fs k) q) ∙ m))
      (λ n l.
      now n l
      ∙ sym (λ i. compared n k l within i || has-side_at test n l i)
      ∙ sym (has-adds formula_total (side_of fs test) (formula_at fs k) (formula_at fs n)))

  has-without : (s : FormulaSet) (a q : Formula) → set.has (without s a) q ≡ (not (eq_by_cmp formula_cmp a q) && set.has s q)
  has-without s a q =
      same_truth _ _ (kept s a q)
      (λ both. without_member s a q (and_right (not (eq_by_cmp formula_cmp a q)) _ both) (not_true (eq_by_cmp formula_cmp a q) (and_left _ _ both)))

  -- and one without a number lacks a formula
  pub side-remove : (test more : ℕ → Bool) (k : ℕ) → k < length fs → ((n : ℕ) → n < length fs → more n ≡ (not (eqb n k) && test n)) → side_of fs more ≡ without (side_of fs test) (formula_at fs k)
  side-remove test more k within now =
      side_is more (without (side_of fs test) (formula_at fs k))
      (λ q m. listed_side test q (and_right (not (eq_by_cmp formula_cmp (formula_at fs k) q)) _ (kept (side_of fs test) (formula_at fs k) q m)))
      (λ n l.
      now n l
      ∙ ap (λ b. not b && test n) (sym (compared n k l within) ∙ equal_either_way (formula_at fs n) (formula_at fs k))
      ∙ ap (λ b. not (eq_by_cmp formula_cmp (formula_at fs k) (formula_at fs n)) && b) (sym (has-side_at test n l))
      ∙ sym (has-without (side_of fs test) (formula_at fs k) (formula_at fs n)))

-- the first formula of a side that passes a test

find-filter : (p q : Formula → Bool) (fs : List Formula) → find p (filter q fs) ≡ find (λ f. q f && p f) fs
find-filter p q [] = refl
find-filter p q (f ∷ fs) =
    elim (q f) as (λ b. find p (cond b (f ∷ filter q fs) (filter q fs)) ≡ cond (b && p f) (Some f) (find (λ g. q g && p g) fs)) [
      | true ↦ ap (cond (p f) (Some f)) (find-filter p q fs)
      | false ↦ find-filter p q fs
    ]

find_first : (p : Formula → Bool) (fs : List Formula) (n : ℕ) → n < length fs → p (formula_at fs n) ≡ true → ((k : ℕ) → k < n → p (formula_at fs k) ≡ false) → find p fs ≡ Some (formula_at fs n)
find_first p [] n l here before = absurd (omega arith)
find_first p (f ∷ fs) zero l here before = ap (λ b. cond b (Some f) (find p fs)) here
find_first p (f ∷ fs) (suc n) l here before =
    let first : p f ≡ false = before 0 (omega arith) in
    ap (λ b. cond b (Some f) (find p fs)) first ∙ find_first p fs n (omega arith) here (λ k below. before (suc k) (omega arith))

find_none : (p : Formula → Bool) (fs : List Formula) → ((k : ℕ) → k < length fs → p (formula_at fs k) ≡ false) → find p fs ≡ None
find_none p [] none = refl
find_none p (f ∷ fs) none =
    let first : p f ≡ false = none 0 (omega arith) in
    ap (λ b. cond b (Some f) (find p fs)) first ∙ find_none p fs (λ k l. none (suc k) (omega arith))

module _ (fs : List Formula) (up : set.IsRising formula_cmp fs) (test marked : ℕ → Bool) (p : Formula → Bool) (marks : (n : ℕ) → n < length fs → marked n ≡ p (formula_at fs n)) where
  both_at : (n : ℕ) → n < length fs → (test n && marked n) ≡ (test (number_of fs (formula_at fs n)) && p (formula_at fs n))
  both_at n l = λ i. test (sym (number_at fs up n l) i) && marks n l i

  -- it is at the least number that passes and is marked, and there is none where no number does
  pub first_passes : (r : Option ℕ) → IfSome r (λ n. n < length fs)
      → IfSome r (λ n. (test n && marked n) ≡ true)
      → IfSome r (λ n. (k : ℕ) → k < n → (test k && marked k) ≡ false)
      → (IsNone r → (k : ℕ) → k < length fs → (test k && marked k) ≡ false)
      → option_map (formula_at fs) r ≡ find p (set.listing (side_of fs test))
  first_passes None within found least none =
      sym (ap (find p) (listing-side fs up test) ∙ find-filter p (λ f. test (number_of fs f)) fs
      ∙ find_none (λ f. test (number_of fs f) && p f) fs (λ k l. sym (both_at k l) ∙ none refl k l))
  first_passes (Some n) within found least none =
      sym (ap (find p) (listing-side fs up test) ∙ find-filter p (λ f. test (number_of fs f)) fs
      ∙ find_first (λ f. test (number_of fs f) && p f) fs n within (sym (both_at n within) ∙ found) (λ k below. sym (both_at k (omega arith)) ∙ least k below))
