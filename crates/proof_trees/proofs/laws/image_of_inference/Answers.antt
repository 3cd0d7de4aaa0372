-- The laws are lemmas.
use Rattle.proof_trees.proofs.RuleImages.{needs-image, shape-image, main-image, eigen-image, formed_rule-image, formed_premise_map}
use Rattle.proof_trees.proofs.RowImages.{row-image, aux-image_in_row}
use Rattle.proof_trees.proofs.laws.image_of_inference.Goals as goal

pub returns-clause-row : goal.returns-clause-row
returns-clause-row c = row-image

pub returns-clause-premises : goal.returns-clause-premises
returns-clause-premises c = needs-image

pub returns-clause-shape : goal.returns-clause-shape
returns-clause-shape c = shape-image

pub returns-clause-main_formulas : goal.returns-clause-main_formulas
returns-clause-main_formulas c = main-image

pub returns-clause-auxiliary_formulas : goal.returns-clause-auxiliary_formulas
returns-clause-auxiliary_formulas c = aux-image_in_row

pub returns-clause-eigenvariable : goal.returns-clause-eigenvariable
returns-clause-eigenvariable c = eigen-image

pub returns-clause-formed : goal.returns-clause-formed
returns-clause-formed c m r e formed h = (formed_rule-image m r e formed h, formed_premise_map m r e formed h)
