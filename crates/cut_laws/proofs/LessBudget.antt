-- A smaller budget, and the budget that is used.
use Rattle.std.proofs.Common.{◌≡◌, ℕ, zero, suc, ◌≤◌, true, if◌then◌else◌, nat_lt, Option, Some, None, refl, sym, ap, ◌∙◌, arith}
use Rattle.std.proofs.lemmas.Bool.Decides.{nat_tests}
use Rattle.proof_trees.specs.Trees.{Tree, cut_free}
use Rattle.cut_laws.specs.Elimination.{next, one_more, elimination}
use Rattle.cut_laws.specs.Budgets.{within}
use Rattle.cut_laws.proofs.Numbered.{enough, lacking, within_enough, within_lacking}
use Rattle.cut_laws.proofs.Unrolled.{split, finished, stopped, stepped, of_result}

-- what is used is within the budget

pub used_within : (t u : Tree) (k n : ℕ) → elimination t n ≡ Some (u, k) → k ≤ n
used_within = of_result (λ t n u k. k ≤ n) (λ t n e. omega arith) (λ t n u k e h. omega arith)

-- a smaller budget

within_zero : (o : Option (Tree × ℕ)) → None ≡ within 0 (one_more o)
within_zero None = refl
within_zero (Some p) = sym (within_lacking 0 (suc p.1) p.0 (omega arith))

within_suc : (m : ℕ) (o : Option (Tree × ℕ)) → one_more (within m o) ≡ within (suc m) (one_more o)
within_suc m None = refl
within_suc m (Some p) = split (nat_lt m p.1)
    (λ e. ap (λ b. one_more (if b then None else Some p)) e ∙ sym (ap (λ b. if b then None else Some (p.0, suc p.1)) (lacking (suc m) (suc p.1) (grind (arith, nat_tests, e)))))
    (λ e. ap (λ b. one_more (if b then None else Some p)) e ∙ sym (ap (λ b. if b then None else Some (p.0, suc p.1)) (enough (suc m) (suc p.1) (grind (arith, nat_tests, e)))))

less_finished : (t : Tree) (m n : ℕ) → cut_free t ≡ true → elimination t m ≡ within m (elimination t n)
less_finished t m n e = finished t m e ∙ sym (ap (within m) (finished t n e) ∙ within_enough m 0 t (omega arith))

pub less_budget : (t : Tree) (m n : ℕ) → m ≤ n → elimination t m ≡ within m (elimination t n)
less_budget t zero zero h = split (cut_free t) (less_finished t zero zero) (λ e. stopped t e ∙ sym (ap (within 0) (stopped t e)))
less_budget t zero (suc n) h = split (cut_free t)
    (less_finished t zero (suc n))
    (λ e. stopped t e ∙ within_zero (elimination (next t) n) ∙ sym (ap (within 0) (stepped t n e)))
less_budget t (suc m) zero h = absurd (omega arith)
less_budget t (suc m) (suc n) h = split (cut_free t)
    (less_finished t (suc m) (suc n))
    (λ e. stepped t m e ∙ ap one_more (less_budget (next t) m n (omega arith)) ∙ within_suc m (elimination (next t) n) ∙ sym (ap (within (suc m)) (stepped t n e)))

-- what is known within one budget is known within each

none_is_some : {A : Type 0} (x : A) → None ≡ Some x → ⊥
none_is_some x e = cc

from_within : (k : ℕ) (u : Tree) (o : Option (Tree × ℕ)) → within k o ≡ Some (u, k) → o ≡ Some (u, k)
from_within k u None h = cc
from_within k u (Some p) h = split (nat_lt k p.1)
    (λ e. absurd (none_is_some {A = Tree × ℕ} (u, k) (sym (ap (λ b. if b then None else Some p) e) ∙ h)))
    (λ e. sym (ap (λ b. if b then None else Some p) e) ∙ h)

pub known_budget : (t u : Tree) (k n : ℕ) → elimination t k ≡ Some (u, k) → elimination t n ≡ within n (Some (u, k))
known_budget t u k n e = split (nat_lt n k)
    (λ less. less_budget t n k (grind (arith, nat_tests, less)) ∙ ap (within n) e)
    (λ less. let h : k ≤ n = grind (arith, nat_tests, less) in
    from_within k u (elimination t n) (sym (less_budget t k n h) ∙ e) ∙ sym (within_enough n k u h))

pub exact_budget : (t u : Tree) (k n : ℕ) → elimination t n ≡ Some (u, k) → elimination t k ≡ Some (u, k)
exact_budget t u k n e = less_budget t k n (used_within t u k n e) ∙ ap (within k) e ∙ within_enough k k u (omega arith)
