-- The pass, the graph and the steps may cross to another thread, and so may what comes back.
use denote.Param.{param}
use denote.Param.Send.{IsSend, IsSync, sendable}
use contract.Lifetimes.{Lfts}
use Rattle.std.proofs.Crossing as std
use Rattle.lk_rules.proofs.Crossing as rules
use Rattle.proof_graph.proofs.Crossing as graph
use Rattle.proof_tests.proofs.threads.put_both.Given as given
use Rattle.proof_tests.proofs.threads.put_both.Lts.{arg-2-1}
use Rattle.proof_tests.proofs.threads.put_both.Goals as goal

-- apart from the goal, whose context a search takes too long to go through
closure_sent : (g : given.Over) (κs : Lfts 16) → IsSync (param 0 g.row.R) → IsSend (param 1 (arg-2-1 g.row.R g.R.laws g.R.Abort-dict g.R.Threads-dict g.R.Wait-dict κs))
closure_sent g κs shared = search (sendable, std.crosses, rules.crosses, graph.crosses) depth 20

pub join-one-requires-send-F : goal.join-one-requires-send-F
join-one-requires-send-F g c κs within = closure_sent g κs c.type_bounds.sync-R

pub join-one-requires-send-A : goal.join-one-requires-send-A
join-one-requires-send-A g c κs within = search (sendable, std.crosses, graph.crosses) depth 20
