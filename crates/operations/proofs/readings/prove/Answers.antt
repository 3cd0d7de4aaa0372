-- The proof that is given fits the graph; where it could not be made, a fault of the problem comes first.
use Rattle.std.proofs.Common.{Bor}
use Rattle.proof_graph.specs.References.{Reference}
use Rattle.operation_laws.specs.Running.{compares}
use Rattle.operations.proofs.Givings.{first_unmade}
use Rattle.operations.proofs.Lacking.{compares_lacks}
use Rattle.operations.proofs.readings.prove.Goals as goal

pub compared-requires : goal.compared-requires
compared-requires c = c.in-Ok.ensures.fits c.args.graph.now c.requires

pub returns-in-Err-Unmade : goal.returns-in-Err-Unmade
returns-in-Err-Unmade c =
    first_unmade c.args.graph.now _ _ compares {T = Bor Reference} (λ r. r.now.tree) _ _ (compares_lacks c.args.graph.now _) c.in-Err-Unmade.field-0-is c.in-Err-Unmade.ensures.found (c.behind_want-in-Err-Unmade.ensures c.args.graph.now)
