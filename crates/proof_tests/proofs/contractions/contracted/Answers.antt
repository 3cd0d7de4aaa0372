-- The last rule is a cut, and its premises have none.
use Rattle.std.proofs.Common.{rules, arith, ◌≡◌, ◌≤◌, ◌<◌, List, [], ◌∷◌, length, get_or, sym, ap, ◌∙◌}
use Rattle.fol.specs.Syntax.{Formula}
use Rattle.lk_rules.specs.declared.rule.Rule.TheVariants.{Cut}
use Rattle.proof_trees.specs.Trees.{Tree, node, none, more, rule_of, below, IsCutFree}
use Rattle.proof_graph.specs.declared.node.Node.{Node}
use Rattle.proof_graph.specs.References.{Reference, trees_of}
use Rattle.cut_contract.specs.LowestCuts.{IsLowestCut}
use Rattle.proof_tests.proofs.contractions.contracted.Goals as goal

lowest : (t : Tree) (a : Formula) (l r : Tree) → rule_of t ≡ Cut a → below t ≡ more l (more r none) → IsCutFree l → IsCutFree r → IsLowestCut t
lowest (node q s ts) a l r rule above left_free right_free = record {
  end = s;
  formula = a;
  left = l;
  right = r;
  is = λ i. node (rule i) s (above i);
  left_cut_free = left_free;
  right_cut_free = right_free;
}

two_trees : (rs : List Reference) (p q : Reference) → 2 ≤ length rs → length rs < 3 → p ≡ get_or rs 0 p → q ≡ get_or rs 1 q → trees_of rs ≡ more p.tree (more q.tree none)
two_trees [] p q least most first second = absurd (omega arith)
two_trees (x ∷ []) p q least most first second = absurd (omega arith)
two_trees (x ∷ y ∷ []) p q least most first second = λ i. more (sym first i).tree (more (sym second i).tree none)
two_trees (x ∷ y ∷ z ∷ rs) p q least most first second = absurd (omega arith)

pub contract-requires-clause-cut : goal.contract-requires-clause-cut
contract-requires-clause-cut g c =
    let tree = c.args.proof.now.tree in
    let left = c.left-item.result.tree in
    let right = c.right-item.result.tree in
    let rule : rule_of tree ≡ Cut c.in-Cut-len2.field-0-0 = sym (ap (λ (n : Node). n.rule) c.get.ensures) ∙ c.in-Cut-len2.is-0 in
    let above : below tree ≡ more left (more right none) = sym c.premises.ensures.trees ∙ two_trees _ _ _ c.in-Cut-len2.len_at_least c.in-Cut-len2.len_below c.left-item.is c.right-item.is in
    let left_free : IsCutFree left = search rules in
    let right_free : IsCutFree right = search rules in
    lowest tree _ left right rule above left_free right_free
