-- The values so far mean the same, and fit the graph.
use Rattle.std.proofs.Common.{◌≡◌, map, take}
use Rattle.std.specs.List.{All}
use Rattle.proof_subst.specs.Benches.{graph_of, IsBenchPassOf}
use Rattle.held_values.specs.Means.{sense, Fits}
use Rattle.operations.proofs.making.each_with_proof.Given as goal

abbrev pub invariant-loop-value : goal.invariant-loop-value
invariant-loop-value g l =
    (map sense l.made.items ≡ map sense (take l.value-index l.given)) × (All (Fits (graph_of l.bench)) l.made.items × IsBenchPassOf l.bench l.pass)
