-- The laws are lemmas.
use Rattle.def_laws.proofs.Faults.{defined_is, free_is, large_is, few_quantifiers, formed_defined}
use Rattle.def_laws.proofs.laws.answers_to_definitions.Goals as goal

pub returns-clause-defined : goal.returns-clause-defined
returns-clause-defined c = defined_is

pub returns-clause-free : goal.returns-clause-free
returns-clause-free c = free_is

pub returns-clause-large : goal.returns-clause-large
returns-clause-large c = large_is

pub returns-clause-quantifiers : goal.returns-clause-quantifiers
returns-clause-quantifiers c = few_quantifiers

pub returns-clause-formed : goal.returns-clause-formed
returns-clause-formed c = formed_defined
