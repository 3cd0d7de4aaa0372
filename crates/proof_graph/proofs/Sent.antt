-- A tree that only contracts see owns nothing, so that it may go to any thread, and any thread may share it.
use denote.Param.Send.{IsSend, IsSync, part_keyless}
use Rattle.proof_graph.specs.contracts.tree.ProofTree.{the_row}

pub tree_send : IsSend the_row
tree_send = record { owned = λ d vs. ((λ vss. (tt, ((λ uss. (tt, tt)), tt))), tt); leaving = λ k f vs. tt }

pub tree_sync : IsSync the_row
tree_sync = record { shared = λ d b o κ q. part_keyless the_row tree_send q d b o }
