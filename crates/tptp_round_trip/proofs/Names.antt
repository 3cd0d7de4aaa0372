-- The numbers that are chosen for quantifiers rise, aren't free in the formula, and are small where few variables are.
use Rattle.std.proofs.Common.{◌≡◌, inl, inr, ℕ, ◌+◌, ◌<◌, ◌≤◌, Bool, false, eqb, T, ◌||◌, List, [], ◌∷◌, length, refl, sym, ap, ◌∙◌, arith}
use Rattle.std.specs.List.{list_any, filter_map}
use Rattle.std.specs.declared.cmp.Ordering.TheVariants.{Less}
use Rattle.std.specs.Ordering.{eq_by_cmp, is_lt, nat_cmp}
use Rattle.std.specs.Cmp.{unsigned_tied}
use Rattle.std.specs.FinMap.Entries.{below_all, is_sorted}
use Rattle.std.proofs.lemmas.Bool.{cases_lt, le-leb, lt-leb, ne_eqb}
use Rattle.std.proofs.lemmas.Cmp.{ranked}
use Rattle.fol.specs.declared.symbols.Var.{Var}
use Rattle.fol.specs.declared.symbols.Var.TheVariants.{Word, Num}
use Rattle.fol.specs.Syntax.{Formula}
use Rattle.fol.specs.Order.{var_cmp}
use Rattle.finite.specs.Finite as set
use Rattle.finite.specs.Finite.{IsRising, marked}
use Rattle.finite.proofs.Finite.{has-listing, listing_rises}
use Rattle.finite.proofs.Rising.{first, second, less}
use Rattle.free_variables.specs.Occurrence.{is_free_in, vars_formula}
use Rattle.free_variables.proofs.OccurrenceLaws.{free_var_members}
use Rattle.tptp_print.specs.Choice.{number_of, numbers_of, outside}
use Rattle.tptp_round_trip.proofs.Opened.{AreRising}

passed : (n : ℕ) (ns : List ℕ) (d : ℕ) → n ≤ d → outside (n ∷ ns) d ≡ outside ns (d + 1)
passed n ns d l = rw (le-leb n d l) refl

stopped : (n : ℕ) (ns : List ℕ) (d : ℕ) → d < n → outside (n ∷ ns) d ≡ d
stopped n ns d l = rw (lt-leb n d l) refl

-- each number is at least its place, and above it by the numbers that are passed at most
at_least : (ns : List ℕ) (d : ℕ) → d ≤ outside ns d
at_least [] d = omega arith
at_least (n ∷ ns) d =
    elim (cases_lt d n) [
      | inl before ↦ omega (arith, stopped n ns d before)
      | inr behind ↦ omega (arith, passed n ns d behind, at_least ns (d + 1))
    ]

pub at_most : (ns : List ℕ) (d : ℕ) → outside ns d ≤ d + length ns
at_most [] d = omega arith
at_most (n ∷ ns) d =
    elim (cases_lt d n) [
      | inl before ↦ omega (arith, stopped n ns d before)
      | inr behind ↦ omega (arith, passed n ns d behind, at_most ns (d + 1))
    ]

outside_rises : (ns : List ℕ) → AreRising (outside ns)
outside_rises [] c d l = l
outside_rises (n ∷ ns) c d l =
    elim (cases_lt d n) [
      | inl before ↦ let lower : c < n = omega arith in omega (arith, stopped n ns d before, stopped n ns c lower)
      | inr behind ↦ elim (cases_lt c n) [
        | inl lower ↦ omega (arith, passed n ns d behind, stopped n ns c lower, at_least ns (d + 1))
        | inr upper ↦ let step : c + 1 < d + 1 = omega arith in omega (arith, passed n ns d behind, passed n ns c upper, outside_rises ns (c + 1) (d + 1) step)
      ]
    ]

-- rising lists of numbers
abbrev IsAbove : ℕ → List ℕ → Type 0
IsAbove n [] = Unit {0}
IsAbove n (m ∷ ms) = (n < m) × IsAbove n ms

abbrev DoRise : List ℕ → Type 0
DoRise [] = Unit {0}
DoRise (n ∷ ns) = IsAbove n ns × DoRise ns

none_above : (n m : ℕ) (ns : List ℕ) → m ≤ n → IsAbove n ns → list_any (eqb m) ns ≡ false
none_above n m [] le above = refl
none_above n m (p ∷ ns) le above =
    let lower : m < p = omega (arith, above.0) in
    ap (λ (b : Bool). b || list_any (eqb m) ns) (ne_eqb m p (λ e. absurd (omega (arith, lower)))) ∙ none_above n m ns le above.1

outside_apart : (ns : List ℕ) (d : ℕ) → DoRise ns → list_any (eqb (outside ns d)) ns ≡ false
outside_apart [] d rise = refl
outside_apart (n ∷ ns) d rise =
    elim (cases_lt d n) [
      | inl before ↦
          ap (λ (m : ℕ). list_any (eqb m) (n ∷ ns)) (stopped n ns d before)
          ∙ (ap (λ (b : Bool). b || list_any (eqb d) ns) (ne_eqb d n (λ e. absurd (omega (arith, before)))) ∙ none_above n d ns (omega arith) rise.0)
      | inr behind ↦
          let upper : n < outside ns (d + 1) = omega (arith, at_least ns (d + 1)) in
          ap (λ (m : ℕ). list_any (eqb m) (n ∷ ns)) (passed n ns d behind)
          ∙ (ap (λ (b : Bool). b || list_any (eqb (outside ns (d + 1))) ns) (ne_eqb (outside ns (d + 1)) n (λ e. absurd (omega (arith, upper)))) ∙ outside_apart ns (d + 1) rise.1)
    ]

-- the numbers of a rising list of variables rise

lower_number : (n m : ℕ) → T (is_lt (nat_cmp n m)) → n < m
lower_number n m h = ranked n m Less (sym (less (nat_cmp n m) h))

numbers_above : (n : ℕ) (vs : List Var) → T (below_all var_cmp (Num n) (marked vs)) → IsAbove n (filter_map number_of vs)
numbers_above n [] h = tt
numbers_above n (Word x ∷ vs) h = numbers_above n vs (second (is_lt (var_cmp (Num n) (Word x))) (below_all var_cmp (Num n) (marked vs)) h)
numbers_above n (Num m ∷ vs) h =
    (lower_number n m (first (is_lt (var_cmp (Num n) (Num m))) (below_all var_cmp (Num n) (marked vs)) h), numbers_above n vs (second (is_lt (var_cmp (Num n) (Num m))) (below_all var_cmp (Num n) (marked vs)) h))

numbers_rise : (vs : List Var) → IsRising var_cmp vs → DoRise (filter_map number_of vs)
numbers_rise [] h = tt
numbers_rise (Word x ∷ vs) h = numbers_rise vs (second (below_all var_cmp (Word x) (marked vs)) (is_sorted var_cmp (marked vs)) h)
numbers_rise (Num n ∷ vs) h =
    (numbers_above n vs (first (below_all var_cmp (Num n) (marked vs)) (is_sorted var_cmp (marked vs)) h), numbers_rise vs (second (below_all var_cmp (Num n) (marked vs)) (is_sorted var_cmp (marked vs)) h))

-- a numbered variable stands in a list where its number stands among the numbers
same_among : (n : ℕ) (vs : List Var) → list_any (eq_by_cmp var_cmp (Num n)) vs ≡ list_any (eqb n) (filter_map number_of vs)
same_among n [] = refl
same_among n (Word x ∷ vs) = same_among n vs
same_among n (Num m ∷ vs) = λ i. unsigned_tied n m i || same_among n vs i

-- the chosen numbers
pub names_rise : (f : Formula) → AreRising (outside (numbers_of (vars_formula f set.empty)))
names_rise f = outside_rises (numbers_of (vars_formula f set.empty))

pub names_apart : (f : Formula) (d : ℕ) → is_free_in (Num (outside (numbers_of (vars_formula f set.empty)) d)) f ≡ false
names_apart f d =
    let vs = vars_formula f set.empty in
    let n = outside (numbers_of vs) d in
    sym (free_var_members f (Num n)) ∙ (has-listing vs (Num n) ∙ (same_among n (set.listing vs) ∙ outside_apart (numbers_of vs) d (numbers_rise (set.listing vs) (listing_rises vs))))
