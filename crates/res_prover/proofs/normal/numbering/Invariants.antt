-- The variables from a place on have their numbers.
use Rattle.std.proofs.Common.{◌≡◌, ◌≤◌, length, drop}
use Rattle.std.specs.FinMap as fin
use Rattle.fol.specs.declared.symbols.Var.{Var}
use Rattle.clause_laws.specs.Normal.{numbered}
use Rattle.res_prover.proofs.normal.numbering.Given as goal

abbrev pub invariant-loop-place : goal.invariant-loop-place
invariant-loop-place l = record {
  within : l.place ≤ length l.vars;
  numbers : (v : Var) → fin.get l.map v ≡ numbered l.place (drop l.place l.vars) v;
}

abbrev pub decreases-loop-place : goal.decreases-loop-place
decreases-loop-place l = l.place
