-- The laws are lemmas.
use Rattle.substitution.proofs.ImageLaws.{formed_empty, formed_insert}
use Rattle.substitution.proofs.ClosedLaws.{closed_map_of}
use Rattle.substitution.proofs.laws.well_formed_maps.Goals as goal

pub returns-clause-empty : goal.returns-clause-empty
returns-clause-empty c = formed_empty

pub returns-clause-insert : goal.returns-clause-insert
returns-clause-insert c = formed_insert

pub returns-clause-closed : goal.returns-clause-closed
returns-clause-closed c = closed_map_of
