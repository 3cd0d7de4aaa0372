-- Each formula so far is well formed.
use Rattle.std.specs.List.{All}
use Rattle.fol.specs.Formed.{IsFormed}
use Rattle.proof_tests.proofs.samples.formulas.Given as goal

abbrev pub invariant-loop-text : goal.invariant-loop-text
invariant-loop-text l = All IsFormed l.list.items
