-- The references so far have other numbers.
use Rattle.std.proofs.Common.{◌≢◌, take}
use Rattle.std.specs.List.{All}
use Rattle.proof_graph.proofs.index.see_apart.Given as goal

abbrev pub invariant-loop-one : goal.invariant-loop-one
invariant-loop-one l = All (λ r. r.number ≢ l.made.number) (take l.one-index l.refs)
