-- The table is of the symbols that the names are given.
use Rattle.std.specs.List.{All}
use Rattle.fol.specs.Syntax.{Pred}
use Rattle.std.proofs.Common.{List}
use Rattle.fol.specs.Formed.{IsFormedPred}
use Rattle.proof_graph.specs.declared.graph.Graph.{Graph}
use Rattle.held_values.specs.Means.{Fits}
use Rattle.operations.proofs.DefinitionsUsed.{ok_of}
use Rattle.operations.proofs.defining.table_given.Goals as goal

pub returns-clause-formed : goal.returns-clause-formed
returns-clause-formed c =
    ok_of (λ (ds : List Pred). (g : Graph) → All (Fits g) c.args.given.now → All IsFormedPred ds) c.new.result c.in_ok-definitions_given.field-0.items
    c.new.ensures c.in_ok-definitions_given.ensures.formed
