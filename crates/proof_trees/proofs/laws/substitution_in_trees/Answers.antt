-- The laws are lemmas.
use Rattle.proof_trees.proofs.Substituted.{sub_valid, concl-sub, size-sub, cuts-sub, quants-sub, cut_free-sub}
use Rattle.proof_trees.proofs.Shapes.{height-sub, alike-sub}
use Rattle.proof_trees.proofs.laws.substitution_in_trees.Goals as goal

pub returns-clause-valid : goal.returns-clause-valid
returns-clause-valid c = sub_valid

pub returns-clause-end : goal.returns-clause-end
returns-clause-end c = concl-sub

pub returns-clause-size : goal.returns-clause-size
returns-clause-size c = size-sub

pub returns-clause-cuts : goal.returns-clause-cuts
returns-clause-cuts c = cuts-sub

pub returns-clause-quants : goal.returns-clause-quants
returns-clause-quants c = quants-sub

pub returns-clause-cut_free : goal.returns-clause-cut_free
returns-clause-cut_free c = cut_free-sub

pub returns-clause-height : goal.returns-clause-height
returns-clause-height c = height-sub

pub returns-clause-alike : goal.returns-clause-alike
returns-clause-alike c = alike-sub
