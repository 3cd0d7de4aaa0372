-- The laws are lemmas.
use Rattle.lk_rules.specs.declared.sequent.Side.TheVariants.{Left, Right}
use Rattle.lk_rules.specs.Sequents.{adds_to}
use Rattle.herbrand_laws.specs.Introduction.{cut_formula, left_rules, right_rules, end_after}
use Rattle.herbrand_laws.proofs.PlainPart.{plain_propositional}
use Rattle.herbrand_laws.proofs.NewInferences.{left_searched, right_searched}
use Rattle.herbrand_laws.proofs.laws.searched.Goals as goal

pub returns-clause-left_propositional : goal.returns-clause-left_propositional
returns-clause-left_propositional c width s items w = plain_propositional (end_after (left_rules width s items w) (adds_to s Right (cut_formula width s items w)))

pub returns-clause-right_propositional : goal.returns-clause-right_propositional
returns-clause-right_propositional c width s items w = plain_propositional (end_after (right_rules width s items w) (adds_to s Left (cut_formula width s items w)))

pub returns-clause-left_formed : goal.returns-clause-left_formed
returns-clause-left_formed c = left_searched

pub returns-clause-right_formed : goal.returns-clause-right_formed
returns-clause-right_formed c = right_searched
