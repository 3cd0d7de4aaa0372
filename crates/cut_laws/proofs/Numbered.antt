-- Values with their numbers of replacements, where there are such.
use Rattle.std.proofs.Common.{◌≡◌, ℕ, suc, ◌+◌, ◌-◌, ◌<◌, ◌≤◌, true, false, if◌then◌else◌, nat_lt, Option, Some, None, refl, sym, ap, ◌∙◌, arith}
use Rattle.std.proofs.lemmas.Bool.Decides.{nat_tests}
use Rattle.proof_trees.specs.Trees.{Tree}
use Rattle.cut_laws.specs.Elimination.{one_more}
use Rattle.cut_laws.specs.Budgets.{given, counted, within}

pub minus_zero : (n : ℕ) → n - 0 ≡ n
minus_zero n = omega arith

pub minus_suc : (n k : ℕ) → suc n - suc k ≡ n - k
minus_suc n k = omega arith

pub minus_sum : (n i k : ℕ) → n - i - k ≡ n - (i + k)
minus_sum n i k = omega arith

-- no more replacements
pub counted_zero : {A : Type 0} (o : Option (A × ℕ)) → counted 0 o ≡ o
counted_zero None = refl
counted_zero (Some p) = ap (λ k. Some (p.0, k)) (omega arith)

pub counted_one : (o : Option (Tree × ℕ)) → one_more o ≡ counted 1 o
counted_one None = refl
counted_one (Some p) = ap (λ k. Some (p.0, k)) (omega arith)

one_more-counted : (i : ℕ) (o : Option (Tree × ℕ)) → one_more (counted i o) ≡ counted (suc i) o
one_more-counted i None = refl
one_more-counted i (Some p) = ap (λ k. Some (p.0, k)) (omega arith)

pub counted-counted : {A : Type 0} (i k : ℕ) (o : Option (A × ℕ)) → counted i (counted k o) ≡ counted (i + k) o
counted-counted i k None = refl
counted-counted i k (Some p) = ap (λ j. Some (p.0, j)) (omega arith)

-- one replacement first, and what is made after it
pub one_more-given : (f : Tree → ℕ → Option (Tree × ℕ)) (n : ℕ) (o : Option (Tree × ℕ))
    → one_more (given o (λ u i. counted i (f u (n - i)))) ≡ given (one_more o) (λ u i. counted i (f u (suc n - i)))
one_more-given f n None = refl
one_more-given f n (Some p) = one_more-counted p.1 (f p.0 (n - p.1)) ∙ ap (λ m. counted (suc p.1) (f p.0 m)) (sym (minus_suc n p.1))

-- tests of a budget
pub enough : (n k : ℕ) → k ≤ n → nat_lt n k ≡ false
enough n k h = grind (arith, nat_tests, h)

pub lacking : (n k : ℕ) → n < k → nat_lt n k ≡ true
lacking n k h = grind (arith, nat_tests, h)

pub within_enough : {A : Type 0} (n k : ℕ) (u : A) → k ≤ n → within n (Some (u, k)) ≡ Some (u, k)
within_enough n k u h = ap (λ b. if b then None else Some (u, k)) (enough n k h)

pub within_lacking : {A : Type 0} (n k : ℕ) (u : A) → n < k → within n (Some (u, k)) ≡ None
within_lacking n k u h = ap (λ b. if b then None else Some (u, k)) (lacking n k h)
