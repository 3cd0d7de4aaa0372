-- The laws are lemmas.
use Rattle.herbrand_laws.proofs.Herbrand.{herbrand_tautology, herbrand_plain, herbrand_instance}
use Rattle.herbrand_laws.proofs.NewInferences.{herbrand_formulas}
use Rattle.herbrand_laws.proofs.laws.herbrand_sequents.Goals as goal

pub returns-clause-tautology : goal.returns-clause-tautology
returns-clause-tautology c = herbrand_tautology

pub returns-clause-propositional : goal.returns-clause-propositional
returns-clause-propositional c = herbrand_plain

pub returns-clause-instances : goal.returns-clause-instances
returns-clause-instances c = herbrand_instance

pub returns-clause-formed : goal.returns-clause-formed
returns-clause-formed c = herbrand_formulas
