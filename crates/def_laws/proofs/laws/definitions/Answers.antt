-- The laws are lemmas.
use Rattle.def_laws.proofs.Closures.{formed_definition}
use Rattle.def_laws.proofs.Definitions.{unf_definition, flat_definition}
use Rattle.def_laws.proofs.laws.definitions.Goals as goal

pub returns-clause-formed : goal.returns-clause-formed
returns-clause-formed c = formed_definition

pub returns-clause-unfolding : goal.returns-clause-unfolding
returns-clause-unfolding c = unf_definition

pub returns-clause-unfolded : goal.returns-clause-unfolded
returns-clause-unfolded c = flat_definition
