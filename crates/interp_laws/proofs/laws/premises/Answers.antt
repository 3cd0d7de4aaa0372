-- The laws are lemmas.
use Rattle.interp_laws.proofs.Descent.{one_has, first_has, second_has, weak_has}
use Rattle.interp_laws.proofs.Moved.{moved_height}
use Rattle.interp_laws.proofs.laws.premises.Goals as goal

pub returns-clause-weakening : goal.returns-clause-weakening
returns-clause-weakening c s p one two h = weak_has s one two p h

pub returns-clause-one_premise : goal.returns-clause-one_premise
returns-clause-one_premise c m r s p one two h = one_has m r s one two p h

pub returns-clause-first_of_two : goal.returns-clause-first_of_two
returns-clause-first_of_two c m r s p q one two h = first_has m r s one two p q h

pub returns-clause-second_of_two : goal.returns-clause-second_of_two
returns-clause-second_of_two c m r s p q one two h = second_has m r s one two p q h

pub returns-clause-height : goal.returns-clause-height
returns-clause-height c = moved_height
