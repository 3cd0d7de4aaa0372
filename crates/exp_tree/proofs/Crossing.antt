-- Expansion trees may cross threads, as a set for `search`.
use denote.Param.Send.{IsSend, IsSync, sendable}
use Rattle.std.proofs.Crossing as std
use Rattle.exp_tree.proofs.expansion.Exp.TheLaws.TheKnot as knot
use Rattle.exp_tree.specs.contracts.checked.CheckedExp as checked
use Rattle.exp_tree.specs.contracts.expansion.Exp as exp
use Rattle.exp_tree.specs.contracts.flat.ExpNode as node
use Rattle.exp_tree.specs.contracts.flat.FlatExp as flat
use Rattle.exp_tree.specs.contracts.sequents.Exps as exps
use Rattle.lk_rules.proofs.Crossing as rules

pub exp_send : IsSend exp.the_row
exp_send = search (sendable, std.crosses, rules.crosses, knot.crosses) depth 30

pub exp_sync : IsSync exp.the_row
exp_sync = search (sendable, std.crosses, rules.crosses, knot.crosses) depth 30

pub exps_send : IsSend exps.the_row
exps_send = search (sendable, std.crosses, exp_send) depth 20

pub exps_sync : IsSync exps.the_row
exps_sync = search (sendable, std.crosses, exp_sync) depth 20

pub checked_send : IsSend checked.the_row
checked_send = search (sendable, exps_send) depth 20

pub checked_sync : IsSync checked.the_row
checked_sync = search (sendable, exps_sync) depth 20

node_send : IsSend (node.the_field).row
node_send = search (sendable, std.crosses, rules.crosses) depth 30

node_sync : IsSync (node.the_field).row
node_sync = search (sendable, std.crosses, rules.crosses) depth 30

pub flat_send : IsSend (flat.the_field).row
flat_send = search (sendable, std.crosses, rules.crosses, node_send) depth 20

pub flat_sync : IsSync (flat.the_field).row
flat_sync = search (sendable, std.crosses, rules.crosses, node_sync) depth 20

pub ruleset crosses = (checked_send, checked_sync, flat_send, flat_sync)
