-- The trees are an expansion proof of what is well formed.
use Rattle.std.proofs.Common.{sym, subst}
use Rattle.lk_rules.specs.declared.sequent.Sequent.{Sequent}
use Rattle.proof_trees.specs.Conclusions.{IsFormedSequent}
use Rattle.exp_tree.specs.Reads.{expansion_of}
use Rattle.exp_tree.specs.Sequents.{AreArranged}
use Rattle.exp_tree.specs.declared.sequents.ExpSequent.{ExpSequent}
use Rattle.arena_building.proofs.Formed.{formed_sequent, formed_expansion}
use Rattle.arena_building.proofs.whole.known.Goals as goal

pub returns-clause-formed : goal.returns-clause-formed
returns-clause-formed c =
    formed_expansion c.args.exps.now c.tree-trees.ensures.proof (subst (λ (e : ExpSequent). AreArranged e.left) c.tree-trees.ensures.trees c.as_slice-left.ensures.arranged)
    (subst (λ (e : ExpSequent). AreArranged e.right) c.tree-trees.ensures.trees c.as_slice-right.ensures.arranged)

pub returns-clause-buildable : goal.returns-clause-buildable
returns-clause-buildable c = (c.lists.ensures.first (expansion_of c.args.exps.now) _ c.tree-trees.ensures.proof (returns-clause-formed c)).0

pub returns-clause-valid : goal.returns-clause-valid
returns-clause-valid c = λ t e. c.proofs.ensures.valid (expansion_of c.args.exps.now) _ t c.tree-trees.ensures.proof (returns-clause-formed c) e

pub returns-clause-cut_free : goal.returns-clause-cut_free
returns-clause-cut_free c = λ t e. c.proofs.ensures.cut_free (expansion_of c.args.exps.now) _ t c.tree-trees.ensures.proof (returns-clause-formed c) e

pub returns-clause-end : goal.returns-clause-end
returns-clause-end c = λ t e. c.proofs.ensures.end (expansion_of c.args.exps.now) _ t c.tree-trees.ensures.proof (returns-clause-formed c) e

pub returns-clause-formed_end : goal.returns-clause-formed_end
returns-clause-formed_end c = λ t e. subst (λ (s : Sequent). IsFormedSequent s) (sym (returns-clause-end c t e)) (formed_sequent c.args.exps.now (returns-clause-formed c))
