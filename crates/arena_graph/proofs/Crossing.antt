-- The numbers of proofs may cross to another thread, as a set for `search`.
use denote.Param.Send.{IsSend, sendable}
use Rattle.std.proofs.Crossing as std
use Rattle.std.proofs.MapsCrossing as maps
use Rattle.arena_graph.specs.contracts.proof_numbers.ProofNumbers as numbers
use Rattle.lk_rules.proofs.Crossing as rules
use Rattle.proof_graph.proofs.Crossing as graph

pub numbers_send : IsSend (numbers.the_field).row
numbers_send = search (sendable, std.crosses, maps.crosses, rules.crosses, graph.crosses) depth 30

pub ruleset crosses = (numbers_send)
