-- Formulas are equal exactly where their numbers are.
use Rattle.std.proofs.Common.{◌≡◌, ℕ, Bool, true, false, List, nat_eq, refl, sym, ap, subst, ◌∙◌, arith}
use Rattle.std.proofs.lemmas.Bool.Decides.{nat_tests}
use Rattle.std.proofs.lemmas.Cmp.{nat_cmp_total}
use Rattle.std.specs.Cmp.{tied_itself, Equal-is}
use Rattle.std.specs.FinMap as fin
use Rattle.std.specs.Ordering.{nat_cmp, eq_by_cmp, is_eq}
use Rattle.fol.specs.Order.{formula_cmp}
use Rattle.fol.specs.OrderLaws.{formula_total}
use Rattle.fol.proofs.OrderTies.{formula_ties}
use Rattle.arena_cells.specs.Items.{Item}
use Rattle.arena_cells.specs.Standing.{formula_at, IsFormulaAt, IsDistinct}
use Rattle.arena_cells.proofs.Sets.{same_test}
use Rattle.arena_cells.proofs.OneKey.{one_formula}

number_test : (m n : ℕ) (b : Bool) → eq_by_cmp nat_cmp m n ≡ b → nat_eq m n ≡ b
number_test m n true e =
    let same : m ≡ n = fin.nat_cmp-IsAntisymmetric m n ((Equal-is (nat_cmp m n)).0 e) in
    grind (arith, nat_tests)
number_test m n false e =
    let apart : m ≡ n → ⊥ = λ same.
    let here : eq_by_cmp nat_cmp m n ≡ true = subst (λ (k : ℕ). eq_by_cmp nat_cmp m k ≡ true) same (ap is_eq (tied_itself nat_cmp_total m)) in
    absurd (cc) in
    grind (arith, nat_tests, apart)

pub formulas_tested : (a : List Item) → IsDistinct a → (m n : ℕ) → IsFormulaAt a m → IsFormulaAt a n → nat_eq m n ≡ eq_by_cmp formula_cmp (formula_at a m) (formula_at a n)
formulas_tested a distinct m n p q =
    number_test m n (eq_by_cmp nat_cmp m n) refl ∙ sym (same_test formula_total formula_ties (formula_at a) (IsFormulaAt a) (one_formula a distinct) m n p q)
