-- The laws are lemmas.
use Rattle.expansion_laws.proofs.Unquantified.{deep_plain, sequent_plain}
use Rattle.expansion_laws.proofs.laws.deep_formulas.Goals as goal

pub returns-clause-tree : goal.returns-clause-tree
returns-clause-tree c = deep_plain

pub returns-clause-trees : goal.returns-clause-trees
returns-clause-trees c = sequent_plain
