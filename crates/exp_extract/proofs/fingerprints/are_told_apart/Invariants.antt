-- Those so far are told apart.
use Rattle.std.proofs.Common.{ℕ, ◌<◌, get_or}
use Rattle.fol.specs.Syntax.{Formula}
use Rattle.exp_extract.specs.Fingerprints.{IsToldApart}
use Rattle.exp_extract.proofs.fingerprints.are_told_apart.Given as goal

abbrev pub invariant-loop-formula : goal.invariant-loop-formula
invariant-loop-formula l = (k : ℕ) (d : Formula) → k < l.formula-index → IsToldApart l.formulas (get_or l.added k d)
