-- The counts so far are those of the premises so far.
use Rattle.std.proofs.Common.{◌≡◌, take, true}
use Rattle.proof_trees.specs.Trees.{is_cut, is_quantifier_rule}
use Rattle.proof_graph.specs.References.{trees_of}
use Rattle.proof_graph.specs.Counts.{capped_all}
use Rattle.proof_graph.proofs.counts.counts_below.Given as goal

abbrev pub invariant-loop-premise : goal.invariant-loop-premise
invariant-loop-premise l = record {
  nodes : l.nodes ≡ capped_all (λ r. true) (trees_of (take l.premise-index l.premises));
  cuts : l.cuts ≡ capped_all is_cut (trees_of (take l.premise-index l.premises));
  quantifiers : l.quantifiers ≡ capped_all is_quantifier_rule (trees_of (take l.premise-index l.premises));
}
