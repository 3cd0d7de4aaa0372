-- Formulas by number: the number of a formula is its place in a rising list.
--     formula_at, number_of, is_listed      the formula with a number, the number of a formula, and whether it has one
--     side_of, span, sequent_of      the formulas whose numbers pass a test; the sequent of a set of numbers
--     IsFit      the set has room for both sides, and no number past the list on the left
--     Marks      the numbers of the formulas that pass a test
use Rattle.std.specs.Prelude.{◌≡◌, ℕ, ◌+◌, ◌*◌, ◌<◌, ◌≤◌, Bool, false, List, filter, length, slice_index_or}
use Rattle.std.specs.List.{list_any, position_or_len}
use Rattle.std.specs.Ordering.{eq_by_cmp}
use Rattle.fol.specs.Syntax.{Formula, top}
use Rattle.fol.specs.Order.{formula_cmp}
use Rattle.finite.specs.Finite as set
use Rattle.lk_rules.specs.Formulas.{FormulaSet}
use Rattle.lk_rules.specs.declared.sequent.Sequent.{Sequent}
use Rattle.prop_search.specs.Bits.{has_number, words_for}

-- the formula with the number
abbrev pub formula_at : List Formula → ℕ → Formula
formula_at fs n = slice_index_or fs n top

-- the number of a formula
abbrev pub number_of : List Formula → Formula → ℕ
number_of fs f = position_or_len (eq_by_cmp formula_cmp f) fs

-- whether the formula has a number
abbrev pub is_listed : List Formula → Formula → Bool
is_listed fs f = list_any (eq_by_cmp formula_cmp f) fs

-- the number is that of the formula
abbrev pub IsNumberOf : List Formula → ℕ → Formula → Type 0
IsNumberOf fs n f = (n < length fs) × (formula_at fs n ≡ f)

-- the set of the listed formulas whose numbers pass a test
unfoldable pub side_of : List Formula → (ℕ → Bool) → FormulaSet
side_of fs test = set.of_rising (filter (λ f. test (number_of fs f)) fs)

-- how much larger the numbers of the right side are than those of the left
abbrev pub span : List Formula → ℕ
span fs = 64 * words_for (length fs)

-- the sequent of a set of numbers: its left side has the formulas of small numbers, its right side those whose numbers are raised by `span`
abbrev pub sequent_of : List Formula → List ℕ → Sequent
sequent_of fs words = record { left = side_of fs (has_number words); right = side_of fs (λ n. has_number words (span fs + n)) }

-- the words have room for both sides, and on the left there is no number that no formula has
pub record IsFit (fs : List Formula) (words : List ℕ) : Type 0 where
  pub room : length words ≡ words_for (length fs) + words_for (length fs)
  pub none_past : (n : ℕ) → length fs ≤ n → n < span fs → has_number words n ≡ false

-- the words have the numbers of just the formulas that pass the test
pub record Marks (fs : List Formula) (words : List ℕ) (p : Formula → Bool) : Type 0 where
  pub room : length words ≡ words_for (length fs)
  pub marked : (n : ℕ) → n < length fs → has_number words n ≡ p (formula_at fs n)
  pub none_past : (n : ℕ) → length fs ≤ n → has_number words n ≡ false
