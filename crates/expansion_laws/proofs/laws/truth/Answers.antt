-- The laws are lemmas.
use Rattle.expansion_laws.proofs.Helping.{helps-deep}
use Rattle.expansion_laws.proofs.Falsified.{tautology_helped}
use Rattle.expansion_laws.proofs.laws.truth.Goals as goal

pub returns-clause-tree : goal.returns-clause-tree
returns-clause-tree c = helps-deep

pub returns-clause-trees : goal.returns-clause-trees
returns-clause-trees c = tautology_helped
