use denote.Param.Send.{IsSend}
use Rattle.proof_graph.proofs.Sent as sent
use Rattle.proof_graph.specs.contracts.tree.ProofTree.{the_row}

pub send : IsSend the_row
send = sent.tree_send
