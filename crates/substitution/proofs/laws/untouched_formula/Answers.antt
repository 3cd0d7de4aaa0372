-- The laws are lemmas.
use Rattle.substitution.proofs.ImageLaws.{untouched, image-empty}
use Rattle.substitution.proofs.laws.untouched_formula.Goals as goal

pub returns-clause-none_free : goal.returns-clause-none_free
returns-clause-none_free c = untouched

pub returns-clause-empty : goal.returns-clause-empty
returns-clause-empty c = image-empty
