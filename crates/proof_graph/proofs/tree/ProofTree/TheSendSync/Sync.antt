use denote.Param.Send.{IsSync}
use Rattle.proof_graph.proofs.Sent as sent
use Rattle.proof_graph.specs.contracts.tree.ProofTree.{the_row}

pub sync : IsSync the_row
sync = sent.tree_sync
