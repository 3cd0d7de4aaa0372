-- What is known, within a budget.
use Rattle.std.proofs.Common.{◌≡◌, ℕ, ◌<◌, ◌≤◌, Bool, true, false, nat_lt, if◌then◌else◌, Some, None, ap, arith}
use Rattle.std.proofs.lemmas.Bool.Decides.{nat_tests}
use Rattle.proof_trees.specs.Trees.{Tree}
use Rattle.cut_laws.specs.Budgets.{within}

pub within_less : (u : Tree) (n k : ℕ) → n < k → within n (Some (u, k)) ≡ None
within_less u n k h = let less : nat_lt n k ≡ true = grind (arith, nat_tests, h) in ap (λ (b : Bool). if b then None else Some (u, k)) less

pub within_enough : (u : Tree) (n k : ℕ) → k ≤ n → within n (Some (u, k)) ≡ Some (u, k)
within_enough u n k h = let enough : nat_lt n k ≡ false = grind (arith, nat_tests, h) in ap (λ (b : Bool). if b then None else Some (u, k)) enough
