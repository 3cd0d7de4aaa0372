-- What stands at the numbers of an arena may cross to another thread, as a set for `search`.
use denote.Param.Send.{IsSend, sendable}
use Rattle.std.proofs.Crossing as std
use Rattle.arena_cells.proofs.key.Key.TheSendSync as key
use Rattle.arena_cells.specs.contracts.cells.Cells as cells
use Rattle.arena_cells.specs.contracts.cells.Stored as stored
use Rattle.lk_rules.proofs.Crossing as rules

stored_send : IsSend (stored.the_field).row
stored_send = search (sendable, std.crosses, rules.crosses) depth 20

pub cells_send : IsSend cells.the_row
cells_send = search (sendable, std.crosses, key.the_send, stored_send) depth 20

pub ruleset crosses = (cells_send)
