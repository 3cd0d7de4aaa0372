-- What stood in the history that the pass had seen stands in that of the turn.
use Rattle.std.proofs.Common.{rules}
use Rattle.proof_graph.specs.Entered.{made_in}
use Rattle.proof_graph.specs.Graphs.{history}
use Rattle.proof_graph.proofs.Several.{stand_on}
use Rattle.proof_graph.proofs.graph.Graph.intern_left_each.Goals as goal

pub intern_left_each-entered-requires-clause-stand : goal.intern_left_each-entered-requires-clause-stand
intern_left_each-entered-requires-clause-stand g c =
    stand_on (history c.args.pass.now) c.deref_mut.result.now.history (made_in c.args.candidates.items) (search rules) c.requires.stand
