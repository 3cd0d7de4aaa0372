-- The laws are lemmas.
use Rattle.def_laws.proofs.FlatFormed.{formed-flat}
use Rattle.def_laws.proofs.FlatShapes.{closed-flat}
use Rattle.def_laws.proofs.Sizes.{grade-flat, nesting-flat, nesting-flat_within}
use Rattle.def_laws.proofs.FlatSets.{formed_flat_sequent}
use Rattle.def_laws.proofs.laws.unfolded_is_well_formed.Goals as goal

pub returns-clause-formed : goal.returns-clause-formed
returns-clause-formed c = formed-flat

pub returns-clause-closed : goal.returns-clause-closed
returns-clause-closed c = closed-flat

pub returns-clause-grade : goal.returns-clause-grade
returns-clause-grade c = grade-flat

pub returns-clause-nesting : goal.returns-clause-nesting
returns-clause-nesting c = nesting-flat

pub returns-clause-size : goal.returns-clause-size
returns-clause-size c = nesting-flat_within

pub returns-clause-sequent : goal.returns-clause-sequent
returns-clause-sequent c = formed_flat_sequent
