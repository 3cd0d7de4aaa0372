-- The verdict is no fault exactly where the inference is right.
use Rattle.std.proofs.Common.{◌≡◌, ℕ, Option, Result, Ok, Err, is_ok, IsOk, refl, ap}
use Rattle.lk_rules.specs.declared.sequent.Sequent.{Sequent}
use Rattle.lk_rules.specs.declared.rule.Rule.{Rule}
use Rattle.lk_rules.specs.declared.inference.RuleFault.{RuleFault}
use Rattle.lk_rules.specs.Rules.{verdict_of, Row}
use Rattle.lk_rules.proofs.Rows.{row_of, row_back}

is_ok_of : (v : Result (Unit {0}) RuleFault) → v ≡ Ok tt → IsOk v
is_ok_of v e = ap is_ok e

ok_of : (v : Result (Unit {0}) RuleFault) → IsOk v → v ≡ Ok tt
ok_of (Ok u) h = refl
ok_of (Err f) h = cc

module _ (r : Rule) (s : Sequent) (n : ℕ) (first second : Option Sequent) where
  pub row_of_verdict : verdict_of r s n first second ≡ Ok tt → Row r s n first second
  row_of_verdict e = row_of r s n first second (is_ok_of _ e)

  pub verdict_of_row : Row r s n first second → verdict_of r s n first second ≡ Ok tt
  verdict_of_row row = ok_of _ (row_back r s n first second row)
