-- The laws are lemmas.
use Rattle.clause_laws.proofs.Normalised.{normal_variant, normal_is}
use Rattle.clause_laws.proofs.laws.numbered_variables.Goals as goal

pub returns-clause-variant : goal.returns-clause-variant
returns-clause-variant c = normal_variant

pub returns-clause-numbers : goal.returns-clause-numbers
returns-clause-numbers c = normal_is
