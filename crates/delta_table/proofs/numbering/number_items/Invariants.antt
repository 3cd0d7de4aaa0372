-- The tuples of the items so far have their numbers.
use Rattle.std.proofs.Common.{take}
use Rattle.delta_table.specs.Numbering.{AreItemNumbers}
use Rattle.delta_table.proofs.numbering.number_items.Given as goal

abbrev pub invariant-loop-item : goal.invariant-loop-item
invariant-loop-item l = AreItemNumbers l.cells l.lists.items (take l.item-index l.items)
