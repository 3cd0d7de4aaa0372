-- The numbered variables outside a list rise, and so differ.
use Rattle.std.proofs.Common.{◌≡◌, ℕ, zero, suc, ◌+◌, ◌<◌, ◌≤◌, inl, inr, true, false, List, ◌∷◌, length, refl, sym, ap, ◌∙◌, arith}
use Rattle.std.specs.Ordering.{eq_by_cmp}
use Rattle.std.proofs.lemmas.Bool.{cases_lt}
use Rattle.fol.specs.declared.symbols.Var.{Var}
use Rattle.fol.specs.declared.symbols.Var.TheVariants.{Num}
use Rattle.fol.specs.Order.{var_cmp}
use Rattle.free_variables.specs.Fresh.{is_among, HasBelow, gap_from, least_outside}
use Rattle.free_variables.proofs.FreshVariables.{fresh_out, fresh_below, least_is}
use Rattle.free_variables.proofs.ShutLaws.{or_right}
use Rattle.substitution.proofs.ImageLaws.{itself, same_var}
use Rattle.proof_trees.proofs.Booleans.{or_first, or_second, either}
use Rattle.search_laws.proofs.Tests.{clash, fails}
use Rattle.extraction_laws.specs.States.{nth_outside, number_of}

least_numbered : (vs : List Var) → least_outside vs ≡ Num (gap_from (length vs) 0 vs)
unfolding least_outside
least_numbered vs = refl

pub nth_numbered : (vs : List Var) (k : ℕ) → nth_outside vs k ≡ Num (number_of (nth_outside vs k))
nth_numbered vs zero = least_numbered vs ∙ ap (λ v. Num (number_of v)) (sym (least_numbered vs))
nth_numbered vs (suc k) = nth_numbered (least_outside vs ∷ vs) k

-- they are outside
pub nth_out : (vs : List Var) (k : ℕ) → is_among (nth_outside vs k) vs ≡ false
nth_out vs zero = fresh_out vs
nth_out vs (suc k) = or_right (eq_by_cmp var_cmp (nth_outside (least_outside vs ∷ vs) k) (least_outside vs)) _ (nth_out (least_outside vs ∷ vs) k)

-- where a list has the variables of the numbers below n, none has a number below n
not_below : (vs : List Var) (k n : ℕ) → HasBelow vs n → n ≤ number_of (nth_outside vs k)
not_below vs k n below =
    elim (cases_lt (number_of (nth_outside vs k)) n) [
      | inl less ↦ clash (is_among (nth_outside vs k) vs) (ap (λ v. is_among v vs) (nth_numbered vs k) ∙ below (number_of (nth_outside vs k)) less) (nth_out vs k)
      | inr more ↦ more
    ]

-- with the least variable outside, a list has those of the numbers up to it
one_more : (vs : List Var) → HasBelow (least_outside vs ∷ vs) (number_of (least_outside vs) + 1)
one_more vs k low =
    let numbered : number_of (least_outside vs) ≡ gap_from (length vs) 0 vs = ap number_of (least_numbered vs) in
    elim (cases_lt k (number_of (least_outside vs))) [
      | inl less ↦ or_second (eq_by_cmp var_cmp (Num k) (least_outside vs)) _ (fresh_below vs k (omega arith))
      | inr more ↦
          let same : k ≡ gap_from (length vs) 0 vs = omega arith in
          or_first _ (is_among (Num k) vs) (ap (eq_by_cmp var_cmp (Num k)) (least_numbered vs ∙ ap Num (sym same)) ∙ itself (Num k))
    ]

-- they rise
pub nth_rises : (vs : List Var) (j k : ℕ) → j < k → number_of (nth_outside vs j) < number_of (nth_outside vs k)
nth_rises vs zero zero less = absurd (omega arith)
nth_rises vs (suc j) zero less = absurd (omega arith)
nth_rises vs zero (suc k) less = let high = not_below (least_outside vs ∷ vs) k (number_of (least_outside vs) + 1) (one_more vs) in omega arith
nth_rises vs (suc j) (suc k) less = nth_rises (least_outside vs ∷ vs) j k (omega arith)

-- so they differ
pub one_number : (vs : List Var) (j k : ℕ) → nth_outside vs j ≡ nth_outside vs k → j ≡ k
one_number vs j k e =
    let same : number_of (nth_outside vs j) ≡ number_of (nth_outside vs k) = ap number_of e in
    elim (cases_lt j k) [
      | inl less ↦ let rises = nth_rises vs j k less in absurd (omega arith)
      | inr more ↦ elim (cases_lt k j) [
        | inl less ↦ let rises = nth_rises vs k j less in absurd (omega arith)
        | inr less ↦ omega arith
      ]
    ]

-- the next one has the least number above that of the last one whose variable isn't in the list

below_next : (vs : List Var) (n : ℕ) → ((j : ℕ) → number_of (least_outside vs) < j → j < n → is_among (Num j) vs ≡ true) → HasBelow (least_outside vs ∷ vs) n
below_next vs n between k less =
    elim (cases_lt k (number_of (least_outside vs) + 1)) [
      | inl low ↦ one_more vs k low
      | inr high ↦ or_second (eq_by_cmp var_cmp (Num k) (least_outside vs)) _ (between k (omega arith) less)
    ]

-- a higher number than that of the least variable isn't its
other_out : (vs : List Var) (n : ℕ) → number_of (least_outside vs) < n → is_among (Num n) vs ≡ false → is_among (Num n) (least_outside vs ∷ vs) ≡ false
other_out vs n high out =
    fails _ (either (eq_by_cmp var_cmp (Num n) (least_outside vs)) (is_among (Num n) vs)
    (λ e. let same : n ≡ number_of (least_outside vs) = ap number_of (same_var (Num n) (least_outside vs) e) in absurd (omega arith))
    (λ e. clash (is_among (Num n) vs) e out))

pub nth_next : (vs : List Var) (k n : ℕ) → number_of (nth_outside vs k) < n → is_among (Num n) vs ≡ false → ((j : ℕ) → number_of (nth_outside vs k) < j → j < n → is_among (Num j) vs ≡ true) → nth_outside vs (suc k) ≡ Num n
nth_next vs zero n high out between = sym (least_is (least_outside vs ∷ vs) n (below_next vs n between) (other_out vs n high out))
nth_next vs (suc k) n high out between =
    let less : number_of (least_outside vs) < number_of (nth_outside vs (suc k)) = nth_rises vs 0 (suc k) (omega arith) in
    nth_next (least_outside vs ∷ vs) k n high (other_out vs n (omega arith) out)
    (λ j over under. or_second (eq_by_cmp var_cmp (Num j) (least_outside vs)) _ (between j over under))
