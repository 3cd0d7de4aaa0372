-- The references so far are kept.
use Rattle.std.proofs.Common.{◌≡◌, take}
use Rattle.proof_graph.proofs.reference.keep_all.Given as goal

abbrev pub invariant-loop-proof : goal.invariant-loop-proof
invariant-loop-proof l = l.kept.items ≡ take l.proof-index l.proofs
