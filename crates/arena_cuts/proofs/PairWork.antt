-- The work in two trees, one after the other: the greater of that in the left one, and that in the right one within what is left of the budget.
use Rattle.std.proofs.Common.{◌≡◌, ℕ, ◌-◌, ◌<◌, ◌≤◌, max, Option, Some, None, refl, subst, arith}
use Rattle.std.proofs.Math.Nat.{le-max_left, le-max_right, max-le}
use Rattle.fol.specs.Syntax.{Formula}
use Rattle.lk_rules.specs.declared.sequent.Sequent.{Sequent}
use Rattle.proof_trees.specs.Trees.{Tree, none, more}
use Rattle.cut_laws.specs.Contraction.{cut}
use Rattle.cut_laws.specs.Elimination.{elimination}
use Rattle.cut_laws.specs.Budgets.{work, work_all}

-- the work in r, after what was made in so many replacements
abbrev then_work : ℕ → Tree → Option (Tree × ℕ) → ℕ
then_work n r None = 0
then_work n r (Some p) = work (n - p.1) r

abbrev pub pair_work : ℕ → Tree → Tree → ℕ
pair_work n l r = max (work n l) (then_work n r (elimination l n))

pub left_work : (n : ℕ) (l r : Tree) → work n l ≤ pair_work n l r
left_work n l r = le-max_left (work n l) (then_work n r (elimination l n))

pub right_work : (n : ℕ) (l r u : Tree) (i : ℕ) → elimination l n ≡ Some (u, i) → work (n - i) r ≤ pair_work n l r
right_work n l r u i e = subst (λ (o : Option (Tree × ℕ)). then_work n r o ≤ pair_work n l r) e (le-max_right (work n l) (then_work n r (elimination l n)))

-- a bound on both is one on the pair
pair_below : (n m : ℕ) (l r : Tree) → work n l ≤ m → ((u : Tree) (i : ℕ) → elimination l n ≡ Some (u, i) → work (n - i) r ≤ m) → pair_work n l r ≤ m
pair_below n m l r left right = max-le left (go (elimination l n) refl)
  where
    go : (o : Option (Tree × ℕ)) → elimination l n ≡ o → then_work n r o ≤ m
    go None e = omega arith
    go (Some p) e = right p.0 p.1 e

pub pair_in_cut : (s : Sequent) (a : Formula) (l r : Tree) (n : ℕ) → work n l < work n (cut s a l r) → ((u : Tree) (k : ℕ) → elimination l n ≡ Some (u, k) → work (n - k) r < work n (cut s a l r)) → pair_work n l r < work n (cut s a l r)
pair_in_cut s a l r n left right =
    let m = work n (cut s a l r) - 1 in
    let first : work n l ≤ m = omega arith in
    let whole : pair_work n l r ≤ m = pair_below n m l r first (λ u i e. let second = right u i e in omega arith) in
    omega arith

pub pair_in_all : (l r : Tree) (n : ℕ) → work n l ≤ work_all n (more l (more r none)) → ((m : ℕ) → work m r ≤ work_all m (more r none))
    → ((u : Tree) (k : ℕ) → elimination l n ≡ Some (u, k) → work_all (n - k) (more r none) < work_all n (more l (more r none))) → pair_work n l r ≤ work_all n (more l (more r none))
pair_in_all l r n first here rest =
    pair_below n (work_all n (more l (more r none))) l r first (λ u i e. let below = rest u i e in let second = here (n - i) in omega arith)
