-- The items so far.
use Rattle.std.proofs.Common.{take}
use Rattle.std.specs.List.{All}
use Rattle.delta_table.specs.Items.{IsItem}
use Rattle.delta_table.proofs.candidates.known_items.Given as goal

abbrev pub invariant-loop-item : goal.invariant-loop-item
invariant-loop-item l = All IsItem (take l.item-index l.items)
