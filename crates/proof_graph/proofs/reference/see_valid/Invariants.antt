-- The trees so far are valid.
use Rattle.std.proofs.Common.{take}
use Rattle.std.specs.List.{All}
use Rattle.proof_trees.specs.Trees.{IsValid}
use Rattle.proof_graph.proofs.reference.see_valid.Given as goal

abbrev pub invariant-loop-proof : goal.invariant-loop-proof
invariant-loop-proof l = All (λ r. IsValid r.tree) (take l.proof-index l.proofs)
