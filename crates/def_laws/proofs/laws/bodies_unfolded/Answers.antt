-- The laws are lemmas.
use Rattle.def_laws.proofs.FlatShapes.{body-flat, flat-plain}
use Rattle.def_laws.proofs.laws.bodies_unfolded.Goals as goal

pub returns-clause-none_left : goal.returns-clause-none_left
returns-clause-none_left c = body-flat

pub returns-clause-unchanged : goal.returns-clause-unchanged
returns-clause-unchanged c = flat-plain
