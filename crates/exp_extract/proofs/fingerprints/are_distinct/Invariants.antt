-- The fingerprints so far are entered, and none stands twice.
use Rattle.std.proofs.Common.{◌≡◌, ℕ, ◌<◌, true, get_or}
use Rattle.std.specs.Prelude.{nat_eq}
use Rattle.std.specs.HashSet as bag
use Rattle.fol.specs.Facts.{formula_fingerprint}
use Rattle.fol.specs.Syntax.{Formula}
use Rattle.exp_extract.specs.Fingerprints.{IsNewAt}
use Rattle.exp_extract.proofs.fingerprints.are_distinct.Given as goal

abbrev pub invariant-loop-formula : goal.invariant-loop-formula
invariant-loop-formula l = record {
  entered : (k : ℕ) (d : Formula) → k < l.formula-index → bag.contains nat_eq l.fingerprints (formula_fingerprint (get_or l.formulas k d)) ≡ true;
  distinct : (j : ℕ) → j < l.formula-index → IsNewAt l.formulas j;
}
