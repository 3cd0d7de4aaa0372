-- Each number below the next is in the list, and the first one isn't among what was passed if it still is the next.
use Rattle.std.proofs.Common.{◌≡◌, ◌≤◌, false, take}
use Rattle.fol.specs.declared.symbols.Var.TheVariants.{Num}
use Rattle.free_variables.specs.Fresh.{HasBelow, is_among}
use Rattle.free_variables.proofs.fresh_variables.past_run.Given as goal

abbrev pub invariant-loop-var : goal.invariant-loop-var
invariant-loop-var l = record {
  below : HasBelow l.vars l.next;
  from : l.from ≤ l.next;
  outside : l.next ≡ l.from → is_among (Num l.from) (take l.var-index l.vars) ≡ false;
}
