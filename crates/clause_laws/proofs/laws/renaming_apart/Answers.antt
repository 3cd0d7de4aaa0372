-- The laws are lemmas.
use Rattle.clause_laws.proofs.RenamedApart.{first_variant, second_variant, apart, image_first, image_second}
use Rattle.clause_laws.proofs.laws.renaming_apart.Goals as goal

pub returns-clause-first : goal.returns-clause-first
returns-clause-first c = first_variant

pub returns-clause-second : goal.returns-clause-second
returns-clause-second c = second_variant

pub returns-clause-apart : goal.returns-clause-apart
returns-clause-apart c = apart

pub returns-clause-on_first : goal.returns-clause-on_first
returns-clause-on_first c = image_first

pub returns-clause-on_second : goal.returns-clause-on_second
returns-clause-on_second r c d g h apart_too = image_second c g h d apart_too
