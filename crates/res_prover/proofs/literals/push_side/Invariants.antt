-- The atoms so far.
use Rattle.std.proofs.Common.{◌≡◌, ◌++◌, map, take}
use Rattle.res_prover.specs.Sending.{sides}
use Rattle.res_prover.proofs.literals.push_side.Given as goal

abbrev pub invariant-loop-place : goal.invariant-loop-place
invariant-loop-place l = sides l.literals.items ≡ sides l.fn.literals.items ++ map (λ f. (l.is_left, f)) (take l.place l.atoms)
