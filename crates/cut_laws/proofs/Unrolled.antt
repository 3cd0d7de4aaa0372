-- The first replacement of an elimination, and what holds of its result by induction on the budget.
use Rattle.std.proofs.Common.{◌≡◌, ℕ, zero, suc, Bool, true, false, if◌then◌else◌, Option, Some, None, IfSome, refl, ap}
use Rattle.proof_trees.specs.Trees.{Tree, cut_free}
use Rattle.cut_laws.specs.Elimination.{next, one_more, elimination}

-- what follows in both cases of a test
pub split : {P : Type 0} (b : Bool) → (b ≡ true → P) → (b ≡ false → P) → P
split true f g = f refl
split false f g = g refl

pub finished : (t : Tree) (n : ℕ) → cut_free t ≡ true → elimination t n ≡ Some (t, 0)
finished t zero e = ap (λ b. if b then Some (t, 0) else None) e
finished t (suc n) e = ap (λ b. if b then Some (t, 0) else one_more (elimination (next t) n)) e

pub stopped : (t : Tree) → cut_free t ≡ false → elimination t 0 ≡ None
stopped t e = ap (λ b. if b then Some (t, 0) else None) e

pub stepped : (t : Tree) (n : ℕ) → cut_free t ≡ false → elimination t (suc n) ≡ one_more (elimination (next t) n)
stepped t n e = ap (λ b. if b then Some (t, 0) else one_more (elimination (next t) n)) e

-- what holds of each tree without cuts, and of a tree with one if it does after the first replacement, holds of each tree, its budget, its
-- result and the number of replacements
module _ (P : Tree → ℕ → Tree → ℕ → Type 0) (done : (t : Tree) (n : ℕ) → cut_free t ≡ true → P t n t 0)
    (step : (t : Tree) (n : ℕ) (u : Tree) (k : ℕ) → cut_free t ≡ false → P (next t) n u k → P t (suc n) u (suc k)) where
  later : (t : Tree) (n : ℕ) → cut_free t ≡ false → (o : Option (Tree × ℕ)) → IfSome o (λ p. P (next t) n p.0 p.1) → IfSome (one_more o) (λ p. P t (suc n) p.0 p.1)
  later t n e None h = h
  later t n e (Some p) h = step t n p.0 p.1 e h

  pub by_replacements : (t : Tree) (n : ℕ) → IfSome (elimination t n) (λ p. P t n p.0 p.1)
  by_replacements t zero = split (cut_free t) (λ e. rw (finished t zero e) (done t zero e)) (λ e. rw (stopped t e) tt)
  by_replacements t (suc n) =
      split (cut_free t) (λ e. rw (finished t (suc n) e) (done t (suc n) e)) (λ e. rw (stepped t n e) (later t n e (elimination (next t) n) (by_replacements (next t) n)))

  pub of_result : (t u : Tree) (k n : ℕ) → elimination t n ≡ Some (u, k) → P t n u k
  of_result t u k n e = rw e at (by_replacements t n)
