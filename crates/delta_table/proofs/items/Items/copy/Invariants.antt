-- The items so far are copied.
use Rattle.std.proofs.Common.{◌≡◌, take}
use Rattle.delta_table.proofs.items.Items.copy.Given as goal

abbrev pub invariant-loop-item : goal.invariant-loop-item
invariant-loop-item l = l.items.items ≡ take l.item-index l.item-items
