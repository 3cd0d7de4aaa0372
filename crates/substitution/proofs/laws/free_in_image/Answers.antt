-- The laws are lemmas.
use Rattle.substitution.proofs.FreeLaws.{origin, comes}
use Rattle.substitution.proofs.laws.free_in_image.Goals as goal

pub returns-clause-origin : goal.returns-clause-origin
returns-clause-origin c = origin

pub returns-clause-kept : goal.returns-clause-kept
returns-clause-kept c = comes
