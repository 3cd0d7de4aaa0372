-- A table of proofs with one more.
use Rattle.std.proofs.Common.{◌≡◌, ℕ, Bool, true, false, cond, refl, subst}
use Rattle.std.specs.Prelude.{Option, Some, IfSome}
use Rattle.std.specs.declared.cmp.Ordering.TheVariants.{Equal}
use Rattle.std.specs.Cmp.{Equal-is}
use Rattle.std.specs.Ordering.{is_eq, nat_cmp}
use Rattle.std.specs.FinMap as fin
use Rattle.fol.proofs.OrderTies.{then_ties}
use Rattle.arena_refutations.specs.Planning.{pair_cmp}

-- only equal pairs tie
pair_ties : (x y : ℕ × ℕ) → pair_cmp x y ≡ Equal → x ≡ y
pair_ties x y e =
    let parts = then_ties (nat_cmp x.0 y.0) (nat_cmp x.1 y.1) e in
    λ i. (fin.nat_cmp-IsAntisymmetric x.0 y.0 parts.0 i, fin.nat_cmp-IsAntisymmetric x.1 y.1 parts.1 i)

entered_by : (P : ℕ × ℕ → ℕ → Type 0) (x y : ℕ × ℕ) (n : ℕ) (b : Bool) (o : Option ℕ) → (b ≡ true → x ≡ y) → P x n → IfSome o (P y) → IfSome (cond b (Some n) o) (P y)
entered_by P x y n true o same h k = subst (λ z. P z n) (same refl) h
entered_by P x y n false o same h k = k

-- what holds of each entry holds with one more
pub entered : (P : ℕ × ℕ → ℕ → Type 0) (x y : ℕ × ℕ) (n : ℕ) (o q : Option ℕ) → q ≡ cond (is_eq (pair_cmp x y)) (Some n) o → P x n → IfSome o (P y) → IfSome q (P y)
entered P x y n o q is h k =
    let whole = entered_by P x y n (is_eq (pair_cmp x y)) o (λ e. pair_ties x y ((Equal-is (pair_cmp x y)).0 e)) h k in
    rw is whole
