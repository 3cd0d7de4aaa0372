-- One premise more.
use Rattle.std.proofs.Common.{◌≡◌, ◌+◌, ◌^◌, ◌-◌, ℕ, min, true, take, Bool}
use Rattle.lk_rules.specs.declared.rule.Rule.{Rule}
use Rattle.proof_trees.specs.Trees.{is_cut, is_quantifier_rule, count_rules, count_rules_all}
use Rattle.proof_graph.specs.References.{trees_of}
use Rattle.proof_graph.proofs.Counting.{counted_more}
use Rattle.proof_graph.proofs.counts.counts_below.Goals as goal

pub loop-premise-preserved : goal.loop-premise-preserved
loop-premise-preserved c =
    let more = λ (p : Rule → Bool) (count n sum : ℕ)
    (so_far : count ≡ min (count_rules_all p (trees_of (take c.loop-premise.premise-index c.args.premises.now))) (2 ^ 64 - 1))
    (here : n ≡ min (count_rules p c.premise-item.result.tree) (2 ^ 64 - 1)) (total : sum ≡ min (count + n) (2 ^ 64 - 1)).
    counted_more p c.args.premises.now c.loop-premise.premise-index c.premise-item.result count n sum _ c.loop-premise-test.true c.premise-item.is so_far here total in
    record {
      nodes = more (λ r. true) _ _ _ c.loop-premise.invariant.nodes c.counts-counts.ensures.nodes c.saturating_add-nodes.ensures;
      cuts = more is_cut _ _ _ c.loop-premise.invariant.cuts c.counts-counts.ensures.cuts c.saturating_add-cuts.ensures;
      quantifiers = more is_quantifier_rule _ _ _ c.loop-premise.invariant.quantifiers c.counts-counts.ensures.quantifiers c.saturating_add-quantifiers.ensures;
    }
