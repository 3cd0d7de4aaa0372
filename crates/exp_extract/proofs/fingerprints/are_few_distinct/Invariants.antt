-- No fingerprint so far stands twice.
use Rattle.std.proofs.Common.{ℕ, ◌<◌}
use Rattle.exp_extract.specs.Fingerprints.{IsNewAt}
use Rattle.exp_extract.proofs.fingerprints.are_few_distinct.Given as goal

abbrev pub invariant-loop-at : goal.invariant-loop-at
invariant-loop-at l = (j : ℕ) → j < l.at → IsNewAt l.formulas j
