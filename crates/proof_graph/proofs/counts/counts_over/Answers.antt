-- The root counts once more where its rule does.
use Rattle.std.proofs.Common.{true, refl}
use Rattle.proof_trees.specs.Trees.{is_cut, is_quantifier_rule}
use Rattle.proof_graph.specs.References.{trees_of}
use Rattle.proof_graph.proofs.Counting.{counted_root}
use Rattle.proof_graph.proofs.counts.counts_over.Goals as goal

pub returns : goal.returns
returns c = λ end. record {
  nodes = counted_root (λ r. true) c.args.rule.now (trees_of c.args.premises.now) true 1 _ _ _ refl refl c.counts_below-below.ensures.nodes c.saturating_add.ensures;
  cuts = counted_root is_cut c.args.rule.now (trees_of c.args.premises.now) _ _ _ _ _ c.is_cut.ensures c.one_if-cuts.ensures c.counts_below-below.ensures.cuts c.saturating_add-2.ensures;
  quantifiers = counted_root is_quantifier_rule c.args.rule.now (trees_of c.args.premises.now) _ _ _ _ _ c.is_quantifier_rule.ensures c.one_if-quantifiers.ensures c.counts_below-below.ensures.quantifiers c.saturating_add-3.ensures;
}
