-- What stood in the history that the pass had seen stands in that of the turn.
use Rattle.std.proofs.Common.{rules}
use Rattle.proof_graph.specs.References.{key_of}
use Rattle.proof_graph.specs.Graphs.{history}
use Rattle.proof_graph.proofs.Several.{stands_on}
use Rattle.proof_graph.proofs.graph.Graph.intern_left.Goals as goal

pub intern_left-entered-requires-clause-stands : goal.intern_left-entered-requires-clause-stands
intern_left-entered-requires-clause-stands g c =
    stands_on (history c.args.pass.now) c.deref_mut.result.now.history (key_of c.args.candidate.made) c.args.candidate.made.number (search rules) c.requires.stands
