-- The key that is left over is compared with that of the reference.
use Rattle.std.proofs.Common.{rules}
use Rattle.proof_graph.proofs.Candidates.{right_by}
use Rattle.proof_graph.proofs.index.Entered.is_right.Goals as goal

pub returns-in-Some : goal.returns-in-Some
returns-in-Some c = right_by c.args.self.now c.in-Some.key c.in-Some._draft c.key.result.now c.is_same_key.result (search rules) c.key.ensures c.is_same_key.ensures
