-- The first value fits the graph, as all values do.
use Rattle.proof_subst.specs.Benches.{graph_of}
use Rattle.operations.proofs.answering.run_making.Goals as goal

pub unfold_in-requires-clause-fits : goal.unfold_in-requires-clause-fits
unfold_in-requires-clause-fits g c = c.first.ensures.fits (graph_of c.args.bench.now) c.requires.fits

pub substitute_in-requires-clause-fits : goal.substitute_in-requires-clause-fits
substitute_in-requires-clause-fits g c = c.first-in-Subst.ensures.fits (graph_of c.args.bench.now) c.requires.fits

pub refute-requires-clause-fits : goal.refute-requires-clause-fits
refute-requires-clause-fits g c = c.first-value.ensures.fits (graph_of c.args.bench.now) c.requires.fits

pub interpolate_in-requires-clause-fits : goal.interpolate_in-requires-clause-fits
interpolate_in-requires-clause-fits g c = c.first-value-in-Interpolate.ensures.fits (graph_of c.args.bench.now) c.requires.fits

pub introduce_in-requires-clause-fits : goal.introduce_in-requires-clause-fits
introduce_in-requires-clause-fits g c κs within = c.first-value-in-Cutintro.ensures.fits (graph_of c.args.bench.now) c.requires.fits
