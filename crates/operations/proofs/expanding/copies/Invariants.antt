-- The variables so far are copied.
use Rattle.std.proofs.Common.{◌≡◌, take}
use Rattle.operations.proofs.expanding.copies.Given as goal

abbrev pub invariant-loop-var : goal.invariant-loop-var
invariant-loop-var l = l.items.items ≡ take l.var-index l.vars
