-- The laws are lemmas.
use Rattle.ground_laws.proofs.Decided.{answered}
use Rattle.ground_laws.proofs.Reached.{model_found, refutation_found}
use Rattle.ground_laws.proofs.laws.decided.Goals as goal

pub returns-clause-answer : goal.returns-clause-answer
returns-clause-answer c = answered

pub returns-clause-satisfiable : goal.returns-clause-satisfiable
returns-clause-satisfiable c = model_found

pub returns-clause-refutable : goal.returns-clause-refutable
returns-clause-refutable c = refutation_found
