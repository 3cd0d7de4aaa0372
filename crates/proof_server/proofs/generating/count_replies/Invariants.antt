use Rattle.proof_server.proofs.GeneratedRuns.{IsCounting}
use Rattle.proof_server.proofs.generating.count_replies.Given as goal

abbrev pub invariant-loop-i : goal.invariant-loop-i
invariant-loop-i g l = IsCounting l.desk l.i l.session
