-- The sides of a sequent of numbers, and the least formula of a side that passes a test, by the least number of two sets.
use Rattle.std.proofs.Common.{◌≡◌, ℕ, ◌+◌, ◌*◌, ◌<◌, ◌≤◌, Bool, true, false, ◌&&◌, List, length, take, drop, Option, Some, None, IfSome, IsNone, inl, inr, refl, sym, ap, ◌∙◌, arith}
use Rattle.std.specs.Prelude.{find, option_map}
use Rattle.std.proofs.lemmas.Bool.{cases_lt}
use Rattle.fol.specs.Syntax.{Formula}
use Rattle.fol.specs.Order.{formula_cmp}
use Rattle.finite.specs.Finite as set
use Rattle.search_laws.proofs.Tests.{clash}
use Rattle.prop_search.specs.Bits.{has_number, words_for}
use Rattle.prop_search.specs.Formulas.{formula_at, side_of, span, sequent_of, IsFit, Marks}
use Rattle.prop_search.proofs.SideMembers.{first_passes, has-side_at, same_side}
use Rattle.prop_search.proofs.SequentsOf.{number-take, number-drop}

-- what is known of the least number of two sets
pub record IsLeastCommon (a b : List ℕ) (r : Option ℕ) : Type 0 where
  pub within : IfSome r (λ n. n < 64 * length a)
  pub found : IfSome r (λ n. (has_number a n && has_number b n) ≡ true)
  pub least : IfSome r (λ n. (k : ℕ) → k < n → (has_number a k && has_number b k) ≡ false)
  pub none : IsNone r → (k : ℕ) → (has_number a k && has_number b k) ≡ false

-- it is that of the least formula
pub record IsLeastFormula (fs : List Formula) (p : Formula → Bool) (test : ℕ → Bool) (r : Option ℕ) : Type 0 where
  pub within : IfSome r (λ n. n < length fs)
  pub passes : IfSome r (λ n. p (formula_at fs n) ≡ true)
  pub least : option_map (formula_at fs) r ≡ find p (set.listing (side_of fs test))

module _ (fs : List Formula) (up : set.IsRising formula_cmp fs) (a b : List ℕ) (room : length a ≡ words_for (length fs)) (test marked : ℕ → Bool) (p : Formula → Bool)
    (first : (n : ℕ) → n < span fs → has_number a n ≡ test n) (second : (n : ℕ) → n < span fs → has_number b n ≡ marked n)
    (marks : (n : ℕ) → n < length fs → marked n ≡ p (formula_at fs n)) (ends : (n : ℕ) → length fs ≤ n → n < span fs → (test n && marked n) ≡ false) where
  common : (n : ℕ) → n < span fs → (has_number a n && has_number b n) ≡ (test n && marked n)
  common n l = λ i. first n l i && second n l i

  second_of : (x y : Bool) → (x && y) ≡ true → y ≡ true
  second_of true y e = e
  second_of false y e = cc

  pub least_formula : (r : Option ℕ) → IsLeastCommon a b r → IsLeastFormula fs p test r
  least_formula None h = record {
    within = tt;
    passes = tt;
    least = first_passes fs up test marked p marks None tt tt tt (λ e k l. sym (common k (omega arith)) ∙ h.none e k);
  }
  least_formula (Some n) h =
      let near : n < span fs = omega (arith, h.within) in
      let both : (test n && marked n) ≡ true = sym (common n near) ∙ h.found in
      let within : n < length fs = elim (cases_lt n (length fs)) [ inl l ↦ l | inr l ↦ clash (test n && marked n) both (ends n l near) ] in
      record {
        within = within;
        passes = sym (marks n within) ∙ second_of (test n) (marked n) both;
        least = first_passes fs up test marked p marks (Some n) within both (λ k below. sym (common k (omega arith)) ∙ h.least k below) (λ e k l. cc);
      }

module _ (fs : List Formula) (up : set.IsRising formula_cmp fs) (words : List ℕ) (fit : IsFit fs words) where
  nothing : (x : Bool) → x ≡ false → (y : Bool) → (x && y) ≡ false
  nothing true e y = cc
  nothing false e y = refl

  or_nothing : (x y : Bool) → y ≡ false → (x && y) ≡ false
  or_nothing true y e = e
  or_nothing false y e = refl

  -- the sides, as the code cuts them off
  on_left : (a : List ℕ) → a ≡ take (words_for (length fs)) words → (n : ℕ) → n < span fs → has_number a n ≡ has_number words n
  on_left a e n l = ap (λ ws. has_number ws n) e ∙ number-take words (words_for (length fs)) n l

  on_right : (b : List ℕ) → b ≡ drop (words_for (length fs)) words → (n : ℕ) → n < span fs → has_number b n ≡ has_number words (span fs + n)
  on_right b e n l = ap (λ ws. has_number ws n) e ∙ number-drop words (words_for (length fs)) n

  pub left_side : (a : List ℕ) → a ≡ take (words_for (length fs)) words → side_of fs (has_number a) ≡ (sequent_of fs words).left
  left_side a e = same_side fs up (has_number words) (has_number a) (λ n l. on_left a e n (omega (arith, l)))

  pub right_side : (b : List ℕ) → b ≡ drop (words_for (length fs)) words → side_of fs (has_number b) ≡ (sequent_of fs words).right
  right_side b e = same_side fs up (λ n. has_number words (span fs + n)) (has_number b) (λ n l. on_right b e n (omega (arith, l)))

  -- the least formula on both sides
  pub least_axiom : (a b : List ℕ) (r : Option ℕ) → a ≡ take (words_for (length fs)) words → b ≡ drop (words_for (length fs)) words → length a ≡ words_for (length fs) → IsLeastCommon a b r
      → IsLeastFormula fs (set.has (sequent_of fs words).right) (has_number words) r
  least_axiom a b r e h room =
      least_formula fs up a b room (has_number words) (λ n. has_number words (span fs + n)) (set.has (sequent_of fs words).right)
      (on_left a e) (on_right b h)
      (λ n l. sym (has-side_at fs up (λ k. has_number words (span fs + k)) n l))
      (λ n l m. nothing (has_number words n) (fit.none_past n l m) _) r

  module _ (marked : List ℕ) (p : Formula → Bool) (marks : Marks fs marked p) where
    -- the least marked formula on the left, and on the right
    pub least_left : (a : List ℕ) (r : Option ℕ) → a ≡ take (words_for (length fs)) words → length a ≡ words_for (length fs) → IsLeastCommon a marked r → IsLeastFormula fs p (has_number words) r
    least_left a r e room =
        least_formula fs up a marked room (has_number words) (has_number marked) p (on_left a e) (λ n l. refl) marks.marked
        (λ n l m. or_nothing (has_number words n) _ (marks.none_past n l)) r

    pub least_right : (b : List ℕ) (r : Option ℕ) → b ≡ drop (words_for (length fs)) words → length b ≡ words_for (length fs) → IsLeastCommon b marked r
        → IsLeastFormula fs p (λ n. has_number words (span fs + n)) r
    least_right b r e room =
        least_formula fs up b marked room (λ n. has_number words (span fs + n)) (has_number marked) p (on_right b e) (λ n l. refl) marks.marked
        (λ n l m. or_nothing (has_number words (span fs + n)) _ (marks.none_past n l)) r
