-- The laws are lemmas.
use Rattle.clause_laws.proofs.Subsuming.{variant_itself, variant_back, variant_both, variant_subsumed, variant_renamed}
use Rattle.clause_laws.proofs.MutualImages.{renamed_variant}
use Rattle.clause_laws.proofs.laws.variants.Goals as goal

pub returns-clause-reflexive : goal.returns-clause-reflexive
returns-clause-reflexive c = variant_itself

pub returns-clause-symmetric : goal.returns-clause-symmetric
returns-clause-symmetric c = variant_back

pub returns-clause-transitive : goal.returns-clause-transitive
returns-clause-transitive c = variant_both

pub returns-clause-subsumes : goal.returns-clause-subsumes
returns-clause-subsumes c = variant_subsumed

pub returns-clause-renamed : goal.returns-clause-renamed
returns-clause-renamed c d e = (renamed_variant d e, variant_renamed d e)
