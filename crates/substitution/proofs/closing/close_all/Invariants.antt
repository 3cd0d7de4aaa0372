-- a quantifier for each variable that is passed
use Rattle.std.proofs.Common.{◌≡◌}
use Rattle.fol.specs.Syntax.{all}
use Rattle.substitution.specs.Closing.{enclosed}
use Rattle.substitution.proofs.closing.close_all.Given as goal

abbrev pub invariant-loop-var : goal.invariant-loop-var
invariant-loop-var l = l.closed ≡ enclosed all l._var-index l.initial.closed
