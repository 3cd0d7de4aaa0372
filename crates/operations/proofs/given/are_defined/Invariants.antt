-- the names before the place are given definitions, or one of their jobs wanted memory
use Rattle.std.proofs.Common.{List}
use Rattle.fol.specs.Syntax.{Pred}
use Rattle.operations.proofs.DefinitionsGiven.{AreGivenTo}
use Rattle.operations.proofs.given.are_defined.Given as goal

abbrev pub invariant-loop-index : goal.invariant-loop-index
invariant-loop-index l = (ds : List Pred) × AreGivenTo l.texts l.given l.index l.wants ds
