use Rattle.std.proofs.Common.{◌≡◌, drop}
use Rattle.exp_check.specs.Eigenvariables.{first_free}
use Rattle.exp_check.proofs.eigenvariables.first_free.Given as goal

abbrev pub invariant-loop-var : goal.invariant-loop-var
invariant-loop-var l = first_free l.sequent (drop l.var-index l.vars) ≡ first_free l.sequent l.vars
