-- The laws are lemmas.
use Rattle.clause_laws.proofs.Atomic.{clause_image, clause_variant, clause_full, full_of_variants}
use Rattle.clause_laws.proofs.laws.clauses.Goals as goal

pub returns-clause-image : goal.returns-clause-image
returns-clause-image c = clause_image

pub returns-clause-variant : goal.returns-clause-variant
returns-clause-variant c = clause_variant

pub returns-clause-full_resolvent : goal.returns-clause-full_resolvent
returns-clause-full_resolvent c = clause_full

pub returns-clause-of_variants : goal.returns-clause-of_variants
returns-clause-of_variants c = full_of_variants
