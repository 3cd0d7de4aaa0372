-- The laws are lemmas.
use Rattle.std.proofs.lemmas.List.Elements.{recursion_from_All}
use Rattle.fol.specs.Formed.{IsFormedTerm}
use Rattle.unify_laws.proofs.Matched.{matchers, matches, variables_matched, none_matches, none_found}
use Rattle.unify_laws.proofs.WellFormed.{formed_matcher}
use Rattle.unify_laws.proofs.laws.matchers.Goals as goal

pub returns-clause-matches : goal.returns-clause-matches
returns-clause-matches c = matches

pub returns-clause-all : goal.returns-clause-all
returns-clause-all c = matchers

pub returns-clause-variables : goal.returns-clause-variables
returns-clause-variables c = variables_matched

pub returns-clause-formed : goal.returns-clause-formed
returns-clause-formed c ts us m terms = formed_matcher ts us m (recursion_from_All IsFormedTerm us terms)

pub returns-clause-none : goal.returns-clause-none
returns-clause-none c ts us = (none_matches ts us, none_found ts us)
