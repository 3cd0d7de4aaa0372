-- The clauses so far.
use Rattle.std.proofs.Common.{◌≡◌, take}
use Rattle.res_prover.specs.Kept.{kept_clauses}
use Rattle.res_prover.proofs.kept.all_as_old.Given as goal

abbrev pub invariant-loop-place : goal.invariant-loop-place
invariant-loop-place l = kept_clauses l.all.items ≡ kept_clauses (take l.place l.kept)
