-- the variables that are passed
use Rattle.std.proofs.Common.{◌≡◌, take}
use Rattle.def_symbols.proofs.defining.set_of.Given as goal

abbrev pub invariant-loop-var : goal.invariant-loop-var
invariant-loop-var l = l.list.items ≡ take l.var-index l.vars
