-- An arena may cross to another thread, as a set for `search`.
use denote.Param.Send.{IsSend, sendable}
use Rattle.std.proofs.Crossing as std
use Rattle.std.proofs.MapsCrossing as maps
use Rattle.arena.proofs.task.Task.TheSendSync as task
use Rattle.arena.specs.contracts.arena.Arena as arena
use Rattle.arena_cells.proofs.Crossing as cells
use Rattle.lk_rules.proofs.Crossing as rules

pub arena_send : IsSend arena.the_row
arena_send = search (sendable, std.crosses, maps.crosses, rules.crosses, cells.crosses, task.the_send) depth 20

pub ruleset crosses = (arena_send)
