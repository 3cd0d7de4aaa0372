-- The definitions are of well-formed symbols, since the values fit the graph.
use Rattle.proof_subst.specs.Benches.{graph_of}
use Rattle.operations.proofs.unfolding.admit_with.Goals as goal

pub admit_marked-requires-clause-symbols : goal.admit_marked-requires-clause-symbols
admit_marked-requires-clause-symbols g c = c.in-Ok.ensures.formed (graph_of c.args.bench.now) c.requires.fits
