-- The laws are lemmas.
use Rattle.clause_laws.proofs.Subsuming.{subsumes_itself, subsumes_both, subsumes_larger, subsumes_image, tautology_subsumed}
use Rattle.clause_laws.proofs.Central.{subsumes_empty}
use Rattle.clause_laws.proofs.laws.subsumption.Goals as goal

pub returns-clause-reflexive : goal.returns-clause-reflexive
returns-clause-reflexive c = subsumes_itself

pub returns-clause-transitive : goal.returns-clause-transitive
returns-clause-transitive c = subsumes_both

pub returns-clause-larger : goal.returns-clause-larger
returns-clause-larger c = subsumes_larger

pub returns-clause-image : goal.returns-clause-image
returns-clause-image c = subsumes_image

pub returns-clause-of_empty : goal.returns-clause-of_empty
returns-clause-of_empty c = subsumes_empty

pub returns-clause-tautology : goal.returns-clause-tautology
returns-clause-tautology g c d t h = tautology_subsumed c d h t
