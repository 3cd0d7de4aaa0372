-- The numbered variable of least number outside a list.
use Rattle.std.proofs.Common.{◌≡◌, ℕ, zero, suc, ◌+◌, ◌<◌, ◌≤◌, inl, inr, Bool, true, false, ◌||◌, if◌then◌else◌, eqb, List, [], ◌∷◌, length, get_or, Contains, refl, sym, ap, ◌∙◌, arith}
use Rattle.std.specs.List.{list_any}
use Rattle.std.specs.Ordering.{eq_by_cmp, nat_cmp, is_eq}
use Rattle.std.proofs.lemmas.Bool.{false≢true, cases_lt}
use Rattle.std.proofs.lemmas.Bool.Decides.{nat_tests}
use Rattle.std.proofs.lemmas.Cmp.{eq_by_cmp_equiv}
use Rattle.std.proofs.lemmas.Map.Steps.{le-length_from_below}
use Rattle.std.proofs.lemmas.Map.Views.{Contains-from_any, list_any-from_Contains}
use Rattle.fol.specs.declared.symbols.Var.{Var}
use Rattle.fol.specs.declared.symbols.Var.TheVariants.{Word, Num}
use Rattle.fol.specs.Order.{var_cmp}
use Rattle.fol.specs.OrderLaws.{var_total}
use Rattle.fol.proofs.OrderTies.{var_equality_same}
use Rattle.free_variables.specs.Fresh.{is_among, HasBelow, gap_from, least_outside, IsLeastOutside}

or-true : (b : Bool) → (b || true) ≡ true
or-true true = refl
or-true false = refl

-- the numbers of the numbered variables of a list
abbrev numbers : List Var → List ℕ
numbers [] = []
numbers (Word x ∷ vs) = numbers vs
numbers (Num n ∷ vs) = n ∷ numbers vs

numbers-le : (vs : List Var) → length (numbers vs) ≤ length vs
numbers-le [] = omega arith
numbers-le (Word x ∷ vs) = omega (arith, numbers-le vs)
numbers-le (Num n ∷ vs) = omega (arith, numbers-le vs)

same_number : (m n : ℕ) → eqb m n ≡ is_eq (nat_cmp m n)
same_number m n = grind (arith, nat_tests)

among_numbers : (n : ℕ) (vs : List Var) → list_any (eqb n) (numbers vs) ≡ is_among (Num n) vs
among_numbers n [] = refl
among_numbers n (Word x ∷ vs) = among_numbers n vs
among_numbers n (Num m ∷ vs) = λ i. same_number n m i || among_numbers n vs i

-- a list is as long as the numbers below n are many, if it has each of them
pub below_fits : (vs : List Var) (n : ℕ) → HasBelow vs n → n ≤ length vs
below_fits vs n below = omega (arith, le-length_from_below (numbers vs) n (λ q l. among_numbers q vs ∙ below q l), numbers-le vs)

pub below_next : (vs : List Var) (n : ℕ) → HasBelow vs n → is_among (Num n) vs ≡ true → HasBelow vs (n + 1)
below_next vs n below here k l =
    elim (cases_lt k n) [
      | inl less ↦ below k less
      | inr more ↦ let e : k ≡ n = omega arith in ap (λ m. is_among (Num m) vs) e ∙ here
    ]

gap_below : (vs : List Var) (k n : ℕ) → HasBelow vs n → HasBelow vs (gap_from k n vs)
gap_below vs zero n below = below
gap_below vs (suc k) n below =
    elim (is_among (Num n) vs) as (λ b. is_among (Num n) vs ≡ b → HasBelow vs (if b then gap_from k (n + 1) vs else n)) [
      | true ↦ λ e. gap_below vs k (n + 1) (below_next vs n below e)
      | false ↦ λ e. below
    ] refl

not_among : (vs : List Var) (n : ℕ) → HasBelow vs n → length vs ≤ n → is_among (Num n) vs ≡ false
not_among vs n below long =
    elim (is_among (Num n) vs) as (λ b. is_among (Num n) vs ≡ b → b ≡ false) [
      | true ↦ λ e. absurd (omega (arith, below_fits vs (n + 1) (below_next vs n below e)))
      | false ↦ λ e. refl
    ] refl

gap_outside : (vs : List Var) (k n : ℕ) → HasBelow vs n → length vs ≤ n + k → is_among (Num (gap_from k n vs)) vs ≡ false
gap_outside vs zero n below long = not_among vs n below (omega arith)
gap_outside vs (suc k) n below long =
    elim (is_among (Num n) vs) as (λ b. is_among (Num n) vs ≡ b → is_among (Num (if b then gap_from k (n + 1) vs else n)) vs ≡ false) [
      | true ↦ λ e. gap_outside vs k (n + 1) (below_next vs n below e) (omega arith)
      | false ↦ λ e. e
    ] refl

none_below : (vs : List Var) → HasBelow vs 0
none_below vs k l = absurd (omega arith)

-- the numbered variable of least number outside a list isn't in it
pub fresh_out : (vs : List Var) → is_among (least_outside vs) vs ≡ false
unfolding least_outside
fresh_out vs = gap_outside vs (length vs) 0 (none_below vs) (omega arith)

-- each variable of a smaller number is in the list
pub fresh_below : (vs : List Var) → HasBelow vs (gap_from (length vs) 0 vs)
fresh_below vs = gap_below vs (length vs) 0 (none_below vs)

same_var : (v w : Var) → eq_by_cmp var_cmp v w ≡ true → v ≡ w
same_var v w e = (var_equality_same v w (eq_by_cmp var_cmp v w) refl).0 e

pub among_contains : (vs : List Var) (v : Var) → is_among v vs ≡ true → Contains vs v
among_contains vs v e = Contains-from_any same_var v vs e

pub contains_among : (vs : List Var) (v : Var) → Contains vs v → is_among v vs ≡ true
contains_among vs v h = list_any-from_Contains (eq_by_cmp_equiv var_total) v vs h

pub least_outside_is : (vs : List Var) → IsLeastOutside vs (least_outside vs)
unfolding least_outside
least_outside_is vs = record {
  number = gap_from (length vs) 0 vs;
  numbered = refl;
  outside = λ h. false≢true (sym (gap_outside vs (length vs) 0 (none_below vs) (omega arith)) ∙ contains_among vs _ h);
  least = λ n l. among_contains vs (Num n) (fresh_below vs n l);
}

gap_is : (vs : List Var) (k m n : ℕ) → m ≤ n → n ≤ m + k → HasBelow vs n → is_among (Num n) vs ≡ false → n ≡ gap_from k m vs
gap_is vs zero m n l u below out = omega arith
gap_is vs (suc k) m n l u below out =
    elim (cases_lt m n) [
      | inl less ↦ rw (below m less) (gap_is vs k (m + 1) n (omega arith) (omega arith) below out)
      | inr same ↦ let e : m ≡ n = omega arith in rw (ap (λ j. is_among (Num j) vs) e ∙ out) (omega arith)
    ]

-- a number outside the list is the least where all smaller ones are in it
pub least_is : (vs : List Var) (n : ℕ) → HasBelow vs n → is_among (Num n) vs ≡ false → Num n ≡ least_outside vs
unfolding least_outside
least_is vs n below out = ap Num (gap_is vs (length vs) 0 n (omega arith) (omega (arith, below_fits vs n below)) below out)

-- an element that ties with v makes v one of the list
among_item : (v w : Var) (vs : List Var) (i : ℕ) → i < length vs → w ≡ get_or vs i w → eq_by_cmp var_cmp v w ≡ true → is_among v vs ≡ true
among_item v w [] i l is tie = absurd (omega arith)
among_item v w (x ∷ xs) zero l is tie = let here : eq_by_cmp var_cmp v x ≡ true = ap (eq_by_cmp var_cmp v) (sym is) ∙ tie in rw here refl
among_item v w (x ∷ xs) (suc i) l is tie = rw (among_item v w xs i (omega arith) is tie) (or-true (eq_by_cmp var_cmp v x))

-- a number that is met in the list next to those below it is at most the list's length
pub next_fits : (vs : List Var) (n i : ℕ) (w : Var) → HasBelow vs n → i < length vs → w ≡ get_or vs i w → eq_by_cmp var_cmp (Num n) w ≡ true → n + 1 ≤ length vs
next_fits vs n i w below l is tie = below_fits vs (n + 1) (below_next vs n below (among_item (Num n) w vs i l is tie))
