-- The rest of a list is shorter.
use Rattle.std.proofs.Common.{length}
use Rattle.arena.proofs.arena.Arena.+import_bindings.Given as goal

abbrev pub decreases-import_bindings : goal.decreases-import_bindings
decreases-import_bindings l = length l.bindings.now
