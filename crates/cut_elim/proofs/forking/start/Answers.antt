-- New tables say nothing wrong, and the branch of the work may cross to another thread, as may what comes back.
use denote.Param.{param}
use denote.Param.Send.{IsSend, sendable}
use contract.Lifetimes.{Lfts}
use Rattle.std.proofs.Crossing as std
use Rattle.std.proofs.sync.ledger.Blank.TheSendSync as blank
use Rattle.arena.proofs.Crossing.{arena_send}
use Rattle.cut_elim.proofs.Crossing.{crosses}
use Rattle.cut_elim.proofs.forking.start.Given as given
use Rattle.cut_elim.proofs.forking.start.Lts.{arg-12-2}
use Rattle.cut_elim.proofs.forking.start.Goals as goal

pub import_proof-requires-clause-numbers : goal.import_proof-requires-clause-numbers
import_proof-requires-clause-numbers g c = c.new-numbers.ensures c.args.graph.now c.new-arena.result

-- apart from the goal, whose context a search takes too long to go through
closure_sent : (g : given.Over) (κs : Lfts 5) → IsSend (param 2 (arg-12-2 g.row.R g.row.M g.R.laws g.M.laws g.R.Threads g.R.Threads-dict g.M.Ledger g.M.Ledger-dict κs))
closure_sent g κs = search (sendable, std.crosses, arena_send, blank.the_send) depth 20

pub spawn_with-started-requires-send-F : goal.spawn_with-started-requires-send-F
spawn_with-started-requires-send-F g c κs within = closure_sent g κs

pub spawn_with-started-requires-send-T : goal.spawn_with-started-requires-send-T
spawn_with-started-requires-send-T g c κs within = search (sendable, crosses) depth 20
