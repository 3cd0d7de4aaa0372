-- The laws are lemmas.
use Rattle.def_laws.proofs.FlatShapes.{shut-flat, free-flat}
use Rattle.def_laws.proofs.FlatSets.{free_in_flat_sequent}
use Rattle.def_laws.proofs.laws.free_variables_of_unfolded.Goals as goal

pub returns-clause-formula : goal.returns-clause-formula
returns-clause-formula c = free-flat

pub returns-clause-none : goal.returns-clause-none
returns-clause-none c = shut-flat

pub returns-clause-sequent : goal.returns-clause-sequent
returns-clause-sequent c = free_in_flat_sequent
