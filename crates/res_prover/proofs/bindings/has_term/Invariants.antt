-- No later binding is of the variable.
use Rattle.std.proofs.Common.{◌≡◌, ◌≤◌, length, take}
use Rattle.std.specs.FinMap as fin
use Rattle.res_prover.specs.Bindings.{map_of}
use Rattle.res_prover.proofs.bindings.has_term.Given as goal

abbrev pub invariant-loop-place : goal.invariant-loop-place
invariant-loop-place l = record {
  within : l.place ≤ length l.bindings;
  map : fin.get (map_of (take l.place l.bindings)) l.variable ≡ fin.get (map_of l.bindings) l.variable;
}

abbrev pub decreases-loop-place : goal.decreases-loop-place
decreases-loop-place l = l.place
