-- Sequents of sets of numbers: with one more formula and with one fewer, and their sides apart.
use Rattle.std.proofs.Common.{◌≡◌, ◌≢◌, ℕ, ◌+◌, ◌*◌, ◌/◌, ◌%◌, ◌<◌, not, ◌&&◌, ◌||◌, eqb, List, length, get_or, take, drop, sym, ap, ◌∙◌, arith}
use Rattle.std.specs.Int.{bit_at}
use Rattle.std.proofs.lemmas.Bool.{ne_eqb}
use Rattle.std.proofs.lemmas.Bool.Decides.{nat_tests}
use Rattle.std.proofs.lemmas.List.{get_or-take, get_or-drop}
use Rattle.fol.specs.Syntax.{Formula}
use Rattle.fol.specs.Order.{formula_cmp}
use Rattle.finite.specs.Finite as set
use Rattle.lk_rules.specs.declared.sequent.Side.{Side}
use Rattle.lk_rules.specs.declared.sequent.Side.TheVariants.{Left, Right}
use Rattle.lk_rules.specs.Sequents.{adds_to}
use Rattle.search_laws.proofs.Tests.{and-false}
use Rattle.prop_search.specs.Bits.{has_number}
use Rattle.prop_search.specs.Formulas.{formula_at, span, sequent_of, IsFit}
use Rattle.prop_search.specs.Premises.{place_on, takes_from}
use Rattle.prop_search.proofs.BitSets.{by_bit}
use Rattle.prop_search.proofs.SideMembers.{same_side, side-insert, side-remove}

-- the sides apart

pub number-take : (words : List ℕ) (w n : ℕ) → n < 64 * w → has_number (take w words) n ≡ has_number words n
number-take words w n l =
    let word : n / 64 < w = omega arith in
    by_bit (take w words) n ∙ ap (λ v. eqb (bit_at v (n % 64)) 1) (get_or-take w words (n / 64) 0 word) ∙ sym (by_bit words n)

pub number-drop : (words : List ℕ) (w n : ℕ) → has_number (drop w words) n ≡ has_number words (64 * w + n)
number-drop words w n =
    let word : w + n / 64 ≡ (64 * w + n) / 64 = omega arith in
    let bit : n % 64 ≡ (64 * w + n) % 64 = omega arith in
    by_bit (drop w words) n
    ∙ (λ i. eqb (bit_at ((get_or-drop w words (n / 64) 0 ∙ ap (λ k. get_or words k 0) word) i) (bit i)) 1)
    ∙ sym (by_bit words (64 * w + n))

raised : (a n m : ℕ) → eqb (a + n) (a + m) ≡ eqb n m
raised a n m = grind (arith, nat_tests)

module _ (fs : List Formula) (up : set.IsRising formula_cmp fs) (words more : List ℕ) (fit : IsFit fs words) (k : ℕ) (within : k < length fs) (same : length more ≡ length words) where
  -- one more number

  pub fit_more : (side : Side) → ((n : ℕ) → has_number more n ≡ (eqb n (place_on fs side k) || has_number words n)) → IsFit fs more
  fit_more Left now = record {
    room = same ∙ fit.room;
    none_past = λ n l m.
        let other : n ≢ k = omega arith in
        now n ∙ ap (λ b. b || has_number words n) (ne_eqb n k other) ∙ fit.none_past n l m;
  }
  fit_more Right now = record {
    room = same ∙ fit.room;
    none_past = λ n l m.
        let other : n ≢ span fs + k = omega arith in
        now n ∙ ap (λ b. b || has_number words n) (ne_eqb n (span fs + k) other) ∙ fit.none_past n l m;
  }

  pub sequent_more : (side : Side) → ((n : ℕ) → has_number more n ≡ (eqb n (place_on fs side k) || has_number words n)) → sequent_of fs more ≡ adds_to (sequent_of fs words) side (formula_at fs k)
  sequent_more Left now = λ i. record {
    left = side-insert fs up (has_number words) (has_number more) k within (λ n l. now n) i;
    right = same_side fs up (λ n. has_number words (span fs + n)) (λ n. has_number more (span fs + n))
        (λ n l.
        let other : span fs + n ≢ k = omega arith in
        now (span fs + n) ∙ ap (λ b. b || has_number words (span fs + n)) (ne_eqb (span fs + n) k other)) i;
  }
  sequent_more Right now = λ i. record {
    left = same_side fs up (has_number words) (has_number more)
        (λ n l.
        let other : n ≢ span fs + k = omega arith in
        now n ∙ ap (λ b. b || has_number words n) (ne_eqb n (span fs + k) other)) i;
    right = side-insert fs up (λ n. has_number words (span fs + n)) (λ n. has_number more (span fs + n)) k within
        (λ n l. now (span fs + n) ∙ ap (λ b. b || has_number words (span fs + n)) (raised (span fs) n k)) i;
  }

  -- one number less

  pub fit_less : (side : Side) → ((n : ℕ) → has_number more n ≡ (not (eqb n (place_on fs side k)) && has_number words n)) → IsFit fs more
  fit_less side now = record {
    room = same ∙ fit.room;
    none_past = λ n l m. now n ∙ ap (λ b. not (eqb n (place_on fs side k)) && b) (fit.none_past n l m) ∙ sym (and-false (not (eqb n (place_on fs side k))));
  }

  pub sequent_less : (side : Side) → ((n : ℕ) → has_number more n ≡ (not (eqb n (place_on fs side k)) && has_number words n)) → sequent_of fs more ≡ takes_from (sequent_of fs words) side (formula_at fs k)
  sequent_less Left now = λ i. record {
    left = side-remove fs up (has_number words) (has_number more) k within (λ n l. now n) i;
    right = same_side fs up (λ n. has_number words (span fs + n)) (λ n. has_number more (span fs + n))
        (λ n l.
        let other : span fs + n ≢ k = omega arith in
        now (span fs + n) ∙ ap (λ b. not b && has_number words (span fs + n)) (ne_eqb (span fs + n) k other)) i;
  }
  sequent_less Right now = λ i. record {
    left = same_side fs up (has_number words) (has_number more)
        (λ n l.
        let other : n ≢ span fs + k = omega arith in
        now n ∙ ap (λ b. not b && has_number words n) (ne_eqb n (span fs + k) other)) i;
    right = side-remove fs up (λ n. has_number words (span fs + n)) (λ n. has_number more (span fs + n)) k within
        (λ n l. now (span fs + n) ∙ ap (λ b. not b && has_number words (span fs + n)) (raised (span fs) n k)) i;
  }
