use Rattle.std.proofs.Common.{◌≡◌, ◌≤◌, ◌-◌, drop}
use Rattle.exp_check.specs.Eigenvariables.{first_pair}
use Rattle.exp_check.proofs.eigenvariables.first_repeated.Given as goal

abbrev pub invariant-loop-place : goal.invariant-loop-place
invariant-loop-place l = (1 ≤ l.place) × (first_pair (drop (l.place - 1) l.vars) ≡ first_pair l.vars)
