-- The clauses so far are there.
use Rattle.std.proofs.Common.{◌≡◌, take}
use Rattle.res_prover.specs.Clauses.{clauses_of}
use Rattle.operations.proofs.saturating.sequents.Given as goal

abbrev pub invariant-loop-place : goal.invariant-loop-place
invariant-loop-place l = l.all.items ≡ clauses_of (take l.place l.kept)
