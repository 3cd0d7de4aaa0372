-- the names before the place are given these definitions
use Rattle.std.specs.List.{All}
use Rattle.std.proofs.Common.{false}
use Rattle.fol.specs.Formed.{IsFormedPred}
use Rattle.proof_graph.specs.declared.graph.Graph.{Graph}
use Rattle.held_values.specs.Means.{Fits}
use Rattle.operations.proofs.DefinitionsGiven.{AreGivenTo}
use Rattle.operations.proofs.given.definitions_given.Given as goal

abbrev pub invariant-loop-index : goal.invariant-loop-index
invariant-loop-index l = AreGivenTo l.texts l.given l.index false l.symbols.items × ((g : Graph) → All (Fits g) l.given → All IsFormedPred l.symbols.items)
