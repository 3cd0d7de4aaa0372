-- The trees are for formulas of the right kind, and their items are instances.
use Rattle.std.proofs.Common.{◌≡◌, None, sym, ap, subst, ◌∙◌}
use Rattle.lk_rules.specs.declared.sequent.Sequent.{Sequent}
use Rattle.proof_graph.specs.declared.node.Node.{Node}
use Rattle.proof_trees.specs.Trees.{concl}
use Rattle.expansion_laws.specs.Proofs.{IsExpansionProof}
use Rattle.exp_tree.specs.declared.sequents.ExpSequent.{ExpSequent}
use Rattle.exp_tree.specs.Reads.{expansion_of}
use Rattle.introduction_laws.specs.Instancing.{first_not_prenex}
use Rattle.cut_intro.specs.Instancing.{ArePrenex, AreInstancesFor}
use Rattle.cut_intro.proofs.InstancingOrder.{none_left, prenex_trees}
use Rattle.cut_intro.proofs.Instanced.{instances_for}
use Rattle.cut_intro.proofs.instancing.herbrand.Goals as goal

pub items_of-requires : goal.items_of-requires
items_of-requires c =
    let same : c.get.result.now.end ≡ concl c.args.proof.now.tree = ap (λ (n : Node). n.end) c.get.ensures in
    let none : first_not_prenex c.get.result.now.end ≡ None = sym c.in_ok-formula.ensures.first ∙ none_left c.in_ok-formula.field-0 c.in_default.not-Some in
    let proof = subst (λ (P : Type 0). P) (λ i. IsExpansionProof (expansion_of (sym c.tree-trees.ensures.trees i)) (sym same i)) c.in_ok-exps.ensures.proof in
    prenex_trees (expansion_of c.tree-trees.result.now) c.get.result.now.end proof none

pub returns-clause-proof : goal.returns-clause-proof
returns-clause-proof c =
    let same : c.get.result.now.end ≡ concl c.args.proof.now.tree = ap (λ (n : Node). n.end) c.get.ensures in
    let none : first_not_prenex c.get.result.now.end ≡ None = sym c.in_ok-formula.ensures.first ∙ none_left c.in_ok-formula.field-0 c.in_default.not-Some in
    let proof = subst (λ (P : Type 0). P) (λ i. IsExpansionProof (expansion_of (sym c.tree-trees.ensures.trees i)) (sym same i)) c.in_ok-exps.ensures.proof in
    subst (λ (s : Sequent). AreInstancesFor s c.in_ok-instances.instances) same
    (instances_for c.get.result.now.end c.tree-trees.result.now proof none c.see_formed.ensures.left c.see_formed.ensures.right c.see_arranged.ensures.left c.see_arranged.ensures.right c.in_ok-instances.instances c.in_ok-instances.ensures)
