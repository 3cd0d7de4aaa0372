-- The atoms so far.
use Rattle.std.proofs.Common.{◌≡◌, take}
use Rattle.res_prover.proofs.marks.with_marks.Given as goal

abbrev pub invariant-loop-place : goal.invariant-loop-place
invariant-loop-place l = l.each.items ≡ take l.place l.atoms
