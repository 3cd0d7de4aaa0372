-- The definitions are of well-formed symbols, since the values fit a graph.
use Rattle.operations.proofs.defining.define_in.Goals as goal

pub defined_with-requires : goal.defined_with-requires
defined_with-requires c = c.in-Ok.ensures.formed c.requires.fits.0 c.requires.fits.1
