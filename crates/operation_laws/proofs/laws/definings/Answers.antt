-- The law of what defining answers.
use Rattle.operation_laws.proofs.laws.definings.Goals as goal

pub returns : goal.returns
returns c name vs f p is = let law = (c.answers_to_definitions.ensures.defined name vs f p).0 is in (law.2, law.1)
