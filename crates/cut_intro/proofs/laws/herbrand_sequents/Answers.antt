-- The laws are lemmas.
use Rattle.cut_intro.proofs.Tautologies.{tautology, propositional, instances}
use Rattle.cut_intro.proofs.laws.herbrand_sequents.Goals as goal

pub returns-clause-tautology : goal.returns-clause-tautology
returns-clause-tautology c = tautology

pub returns-clause-propositional : goal.returns-clause-propositional
returns-clause-propositional c = propositional

pub returns-clause-instances : goal.returns-clause-instances
returns-clause-instances c = instances
