-- The fingerprints so far are others.
use Rattle.std.proofs.Common.{◌≡◌, ℕ, ◌<◌, false, get_or}
use Rattle.std.specs.Prelude.{nat_eq}
use Rattle.fol.specs.Facts.{formula_fingerprint}
use Rattle.fol.specs.Syntax.{Formula}
use Rattle.exp_extract.proofs.fingerprints.is_new.Given as goal

abbrev pub invariant-loop-before : goal.invariant-loop-before
invariant-loop-before l = (i : ℕ) (d : Formula) → i < l.before → nat_eq (formula_fingerprint (get_or l.formulas i d)) (formula_fingerprint (get_or l.formulas l.at d)) ≡ false
