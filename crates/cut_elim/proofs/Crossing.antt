-- A desk may be shared by threads, its passes may cross to another, and so may what a branch of an elimination comes to, as a set for
-- `search`.
use denote.Param.Send.{IsSend, IsSync, sendable}
use Rattle.std.proofs.Crossing as std
use Rattle.arena.proofs.Crossing as arena
use Rattle.arena_cuts.proofs.fault.ElimFault.TheSendSync as fault
use Rattle.arena_cuts.proofs.steps.Steps.TheSendSync as steps
use Rattle.arena_cuts.proofs.table.Reduced.TheSendSync as reduced
use Rattle.cut_elim.specs.contracts.begun.Begun as begun
use Rattle.cut_elim.specs.contracts.desk.Desk as desk
use Rattle.cut_elim.specs.contracts.desk.DeskPass as pass
use Rattle.cut_elim.specs.contracts.known.Elimination as elimination
use Rattle.memo_table.proofs.Crossing as pairs
use Rattle.memo_table.proofs.memo.MemoOf.TheSendSync as memo
use Rattle.proof_graph.proofs.Crossing as graph
use Rattle.proof_subst.proofs.Crossing as bench
use Rattle.turn_log.proofs.log.PassOf.TheSendSync as pass_of
use Rattle.turn_log.proofs.log.TurnLog.TheSendSync as log

elimination_send : IsSend (elimination.the_field).row
elimination_send = search (sendable, graph.crosses) depth 20

begun_sync : IsSync (begun.the_field).row
begun_sync = search (sendable, std.crosses) depth 20

pub desk_sync : IsSync (desk.the_field).row
desk_sync = search (sendable, std.crosses, bench.crosses, memo.the_field_sync, log.the_field_sync, pairs.crosses, elimination_send, begun_sync) depth 20

pub pass_send : IsSend (pass.the_field).row
pass_send = search (sendable, std.crosses, bench.crosses, pass_of.the_field_send, pairs.crosses, elimination_send) depth 20

pub ruleset crosses = (desk_sync, pass_send, std.crosses, arena.crosses, fault.the_field_send, steps.the_send, reduced.the_field_send)
