-- The laws are lemmas.
use Rattle.def_laws.proofs.UnfoldedTrees.{valid_unfolded, rules_formed, concl-unfolded, formed_end-unfolded, size-unfolded, cuts-unfolded, quants-unfolded, cut_free-unfolded, height-unfolded, no_bodies, unfolded-plain}
use Rattle.def_laws.proofs.laws.unfolded_trees.Goals as goal

pub returns-clause-valid : goal.returns-clause-valid
returns-clause-valid c = valid_unfolded

pub returns-clause-rules : goal.returns-clause-rules
returns-clause-rules c = rules_formed

pub returns-clause-end : goal.returns-clause-end
returns-clause-end c = concl-unfolded

pub returns-clause-formed_end : goal.returns-clause-formed_end
returns-clause-formed_end c = formed_end-unfolded

pub returns-clause-size : goal.returns-clause-size
returns-clause-size c = size-unfolded

pub returns-clause-cuts : goal.returns-clause-cuts
returns-clause-cuts c = cuts-unfolded

pub returns-clause-quants : goal.returns-clause-quants
returns-clause-quants c = quants-unfolded

pub returns-clause-cut_free : goal.returns-clause-cut_free
returns-clause-cut_free c = cut_free-unfolded

pub returns-clause-height : goal.returns-clause-height
returns-clause-height c = height-unfolded

pub returns-clause-none_left : goal.returns-clause-none_left
returns-clause-none_left c = no_bodies

pub returns-clause-unchanged : goal.returns-clause-unchanged
returns-clause-unchanged c = unfolded-plain
