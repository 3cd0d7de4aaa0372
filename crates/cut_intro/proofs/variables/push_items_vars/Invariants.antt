use Rattle.std.proofs.Common.{◌≡◌, ◌++◌, take}
use Rattle.herbrand_laws.specs.Introduction.{tuple_variables}
use Rattle.cut_intro.proofs.variables.push_items_vars.Given as goal

abbrev pub invariant-loop-item : goal.invariant-loop-item
invariant-loop-item l = l.list.items ≡ l.initial.list.items ++ tuple_variables (take l.item-index l.items)
