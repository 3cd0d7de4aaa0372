-- The first are right.
use Rattle.std.proofs.Common.{take}
use Rattle.std.specs.List.{All}
use Rattle.proof_graph.specs.Entered.{IsRight}
use Rattle.proof_graph.proofs.index.are_right.Given as goal

abbrev pub invariant-loop-one : goal.invariant-loop-one
invariant-loop-one l = All IsRight (take l.one-index l.entered)
