-- Proofs that a budget allows, and such as it does not.
use Rattle.std.proofs.Common.{◌≡◌, ℕ, ◌<◌, ◌≤◌, Bool, true, false, if◌then◌else◌, Option, Some, None, refl, ap, subst, ◌∙◌, arith}
use Rattle.std.specs.Prelude.{nat_lt, Result, Ok, Err}
use Rattle.std.proofs.lemmas.Bool.Decides.{nat_tests}
use Rattle.proof_trees.specs.Trees.{Tree, size}
use Rattle.building_laws.specs.declared.fault.BuildFault.{BuildFault}
use Rattle.building_laws.specs.declared.fault.BuildFault.TheVariants.{Budget}
use Rattle.building_laws.specs.Budgets.{within_budget}

not_above : (n m : ℕ) → m ≤ n → nat_lt n m ≡ false
not_above n m h = grind (arith, nat_tests)

above : (n m : ℕ) → n < m → nat_lt n m ≡ true
above n m h = grind (arith, nat_tests)

not_more : (n m : ℕ) → nat_lt n m ≡ false → m ≤ n
not_more n m h = grind (arith, nat_tests)

-- a proof that the budget allows, and one that it doesn't
pub proof_within : (n : ℕ) (o : Option Tree) (t : Tree) → o ≡ Some t → size t ≤ n → within_budget n o ≡ Ok t
proof_within n o t e h = ap (within_budget n) e ∙ ap (λ b. if b then Err Budget else Ok t) (not_above n (size t) h)

pub proof_over : (n : ℕ) (o : Option Tree) (t : Tree) → o ≡ Some t → n < size t → within_budget n o ≡ Err Budget
proof_over n o t e h = ap (within_budget n) e ∙ ap (λ b. if b then Err Budget else Ok t) (above n (size t) h)

-- what is answered within a budget
pub is_within : (n : ℕ) (o : Option Tree) (t : Tree) → within_budget n o ≡ Ok t → (o ≡ Some t) × (size t ≤ n)
is_within n None t e = cc
is_within n (Some u) t e = by_test (nat_lt n (size u)) refl e
  where
    by_test : (b : Bool) → nat_lt n (size u) ≡ b → ◌≡◌ {A = Result Tree BuildFault} (if b then Err Budget else Ok u) (Ok t) → (Some u ≡ Some t) × (size t ≤ n)
    by_test true above same = cc
    by_test false below same = let trees : u ≡ t = cc in (ap Some trees, subst (λ v. size v ≤ n) trees (not_more n (size u) below))
