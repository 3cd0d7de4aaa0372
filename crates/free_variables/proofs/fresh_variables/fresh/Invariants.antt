-- Each smaller number is in the list, so the number is at most the list's length.
use Rattle.std.proofs.Common.{◌-◌, length}
use Rattle.free_variables.specs.Fresh.{HasBelow}
use Rattle.free_variables.proofs.fresh_variables.fresh.Given as goal

abbrev pub invariant-loop-number : goal.invariant-loop-number
invariant-loop-number l = HasBelow l.vars l.number

abbrev pub decreases-loop-number : goal.decreases-loop-number
decreases-loop-number l = length l.vars - l.number
