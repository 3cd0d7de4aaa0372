-- The clauses so far.
use Rattle.std.proofs.Common.{◌≡◌, take}
use Rattle.res_prover.specs.Clauses.{clauses_of}
use Rattle.res_prover.proofs.saturating.literals.Given as goal

abbrev pub invariant-loop-place : goal.invariant-loop-place
invariant-loop-place l = clauses_of l.all.items ≡ take l.place l.sequents
