-- Fewer tuples are left.
use Rattle.std.proofs.Common.{◌-◌, length}
use Rattle.delta_table.proofs.founds.+push_rows.Given as goal

abbrev pub decreases-push_rows : goal.decreases-push_rows
decreases-push_rows l = length l.tuples.now - l.at
