-- The laws are lemmas.
use Rattle.def_laws.proofs.FlatRows.{row-flat}
use Rattle.def_laws.proofs.FlatRules.{aux-flat, formed_rule-flat}
use Rattle.def_laws.proofs.UnfoldedTrees.{inference-unfolded}
use Rattle.def_laws.proofs.laws.unfolded_inferences.Goals as goal

pub returns-clause-row : goal.returns-clause-row
returns-clause-row c = row-flat

pub returns-clause-inference : goal.returns-clause-inference
returns-clause-inference c = inference-unfolded

pub returns-clause-auxiliary_formulas : goal.returns-clause-auxiliary_formulas
returns-clause-auxiliary_formulas c = aux-flat

pub returns-clause-formed : goal.returns-clause-formed
returns-clause-formed c = formed_rule-flat
