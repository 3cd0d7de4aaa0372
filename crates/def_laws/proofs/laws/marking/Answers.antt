-- The laws are lemmas.
use Rattle.def_laws.proofs.MarkedFormulas.{formed-marked, free-marked, marked-none, marked_twice}
use Rattle.def_laws.proofs.MarkedSequents.{formed_marked_sequent, formed_marked_rule}
use Rattle.def_laws.proofs.laws.marking.Goals as goal

pub returns-clause-formed : goal.returns-clause-formed
returns-clause-formed c = formed-marked

pub returns-clause-sequent : goal.returns-clause-sequent
returns-clause-sequent c = formed_marked_sequent

pub returns-clause-rule : goal.returns-clause-rule
returns-clause-rule c = λ ds r each. formed_marked_rule ds each r

pub returns-clause-free_variables : goal.returns-clause-free_variables
returns-clause-free_variables c = free-marked

pub returns-clause-none : goal.returns-clause-none
returns-clause-none c = marked-none

pub returns-clause-twice : goal.returns-clause-twice
returns-clause-twice c = marked_twice
