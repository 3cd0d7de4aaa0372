-- A bench may be shared by threads, and its passes may cross to another, as a set for `search`.
use denote.Param.Send.{IsSend, IsSync, sendable}
use Rattle.std.proofs.Crossing as std
use Rattle.arena.proofs.Crossing as arena
use Rattle.arena_graph.proofs.Crossing as numbers
use Rattle.lk_rules.proofs.Crossing as rules
use Rattle.memo_table.proofs.Crossing as pairs
use Rattle.memo_table.proofs.memo.MemoOf.TheSendSync as memo
use Rattle.proof_graph.proofs.Crossing as graph
use Rattle.proof_subst.specs.contracts.bench.Bench as bench
use Rattle.proof_subst.specs.contracts.bench.BenchPass as pass
use Rattle.proof_subst.specs.contracts.known.Image as image
use Rattle.proof_subst.specs.contracts.known.ImageKey as key
use Rattle.substitution.specs.contracts.maps.Subst as subst
use Rattle.turn_log.proofs.log.PassOf.TheSendSync as pass_of
use Rattle.turn_log.proofs.log.TurnLog.TheSendSync as log

subst_send : IsSend subst.the_row
subst_send = search (sendable, std.crosses, rules.crosses) depth 20

key_send : IsSend (key.the_field).row
key_send = search (sendable, subst_send) depth 10

image_send : IsSend (image.the_field).row
image_send = search (sendable, graph.crosses) depth 10

pub bench_sync : IsSync (bench.the_field).row
bench_sync = search (sendable, std.crosses, graph.crosses, memo.the_field_sync, log.the_field_sync, pairs.crosses, key_send, image_send) depth 20

pub pass_send : IsSend (pass.the_field).row
pass_send = search (sendable, std.crosses, graph.crosses, arena.crosses, numbers.crosses, pass_of.the_field_send, pairs.crosses, key_send, image_send) depth 20

pub ruleset crosses = (bench_sync, pass_send)
