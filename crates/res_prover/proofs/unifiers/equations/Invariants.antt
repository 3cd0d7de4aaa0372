-- The equations so far.
use Rattle.std.proofs.Common.{◌≡◌, take}
use Rattle.clause_laws.specs.Unifiers.{equations}
use Rattle.res_prover.proofs.unifiers.equations.Given as goal

abbrev pub invariant-loop-place : goal.invariant-loop-place
invariant-loop-place l = l.pairs.items ≡ equations l.first (take l.place l.others)
