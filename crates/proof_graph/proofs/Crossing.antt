-- A graph may be shared by threads, and it, its references and its passes may cross to another, as a set for `search`.
use denote.Param.Send.{IsSend, IsSync, sendable}
use Rattle.std.proofs.Crossing as std
use Rattle.std.proofs.MapsCrossing as maps
use Rattle.boxcar.proofs.table.Placed.TheSendSync as placed
use Rattle.boxcar.proofs.vec.Vec.TheSendSync as boxcar
use Rattle.lk_rules.proofs.Crossing as rules
use Rattle.proof_graph.proofs.Sent.{tree_send, tree_sync}
use Rattle.proof_graph.proofs.counts.Counts.TheSendSync as counts
use Rattle.proof_graph.proofs.reference.ProofRef.TheLaws.TheKnot as proof_knot
use Rattle.proof_graph.specs.contracts.graph.Graph as graph
use Rattle.proof_graph.specs.contracts.graph.GraphPass as pass
use Rattle.proof_graph.specs.contracts.index.Index as index
use Rattle.proof_graph.specs.contracts.key.Key as key
use Rattle.proof_graph.specs.contracts.node.Node as node
use Rattle.proof_graph.specs.contracts.reference.ProofRef as proof
use Rattle.proof_graph.specs.contracts.tree.Stamp as stamp
use Rattle.turn_log.proofs.log.PassOf.TheSendSync as pass_of
use Rattle.turn_log.proofs.log.TurnLog.TheSendSync as log

pub node_send : IsSend (node.the_field).row
node_send = search (sendable, std.crosses, rules.crosses) depth 10

pub node_sync : IsSync (node.the_field).row
node_sync = search (sendable, std.crosses, rules.crosses) depth 10

pub key_send : IsSend key.the_row
key_send = search (sendable, std.crosses, node_send, node_sync) depth 10

pub key_sync : IsSync key.the_row
key_sync = search (sendable, std.crosses, node_send, node_sync) depth 10

pub stamp_send : IsSend stamp.the_row
stamp_send = search (sendable, std.crosses, key_send, tree_send) depth 10

pub stamp_sync : IsSync stamp.the_row
stamp_sync = search (sendable, std.crosses, key_sync, tree_sync) depth 10

pub proof_send : IsSend proof.the_row
proof_send = search (sendable, std.crosses, proof_knot.crosses, placed.the_send, placed.the_sync, counts.the_send, counts.the_sync) depth 20

pub proof_sync : IsSync proof.the_row
proof_sync = search (sendable, std.crosses, proof_knot.crosses, placed.the_send, placed.the_sync, counts.the_send, counts.the_sync) depth 20

pub index_send : IsSend index.the_row
index_send = search (sendable, std.crosses, maps.crosses, key_send, proof_send) depth 20

pub pass_send : IsSend (pass.the_field).row
pass_send = search (sendable, std.crosses, pass_of.the_field_send, index_send) depth 20

pub graph_sync : IsSync (graph.the_field).row
graph_sync = search (sendable, std.crosses, boxcar.the_sync, log.the_field_sync, index_send, stamp_send, stamp_sync) depth 20

pub graph_send : IsSend (graph.the_field).row
graph_send = search (sendable, std.crosses, boxcar.the_send, log.the_field_send, index_send, stamp_send) depth 20

pub ruleset crosses = (proof_send, proof_sync, pass_send, graph_send, graph_sync)
