-- The formula is told apart from those so far.
use Rattle.std.proofs.Common.{◌≡◌, ℕ, ◌<◌, get_or}
use Rattle.fol.specs.Facts.{formula_fingerprint}
use Rattle.fol.specs.Syntax.{Formula}
use Rattle.exp_extract.proofs.fingerprints.is_told_apart.Given as goal

abbrev pub invariant-loop-other : goal.invariant-loop-other
invariant-loop-other l = (i : ℕ) (d : Formula) → i < l.other-index → formula_fingerprint l.formula ≡ formula_fingerprint (get_or l.formulas i d) → l.formula ≡ get_or l.formulas i d
