-- What is shown fits the graph, and the trees of an expansion proof stand on their sides.
use Rattle.std.proofs.Common.{sym, subst}
use Rattle.exp_tree.specs.Reads.{StandsRightly}
use Rattle.operations.specs.Means.{FitsShown}
use Rattle.operations.proofs.Expanded.{proof_stands}
use Rattle.operations.proofs.readings.show.Goals as goal

pub steps-requires : goal.steps-requires
steps-requires c = subst (FitsShown c.args.graph.now) c.in-Ok-Proof.field-0-is (c.in-Ok-Proof.ensures.fits c.args.graph.now c.requires)

pub write_nodes-requires : goal.write_nodes-requires
write_nodes-requires c = subst StandsRightly (sym c.tree.ensures.trees) (proof_stands c.in-Ok-Expansion.checked.now c.tree.ensures.proof)
