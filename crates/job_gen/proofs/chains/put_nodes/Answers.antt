use Rattle.std.proofs.Common.{[], ◌∷◌}
use Rattle.std.specs.List.{range_with_len, flat_map}
use Rattle.job_gen.specs.Chains.{implication_nodes, weak_data, leaf_data, chain_nodes}
use Rattle.json_text.proofs.Adding.{adds_then}
use Rattle.job_gen.proofs.Adding.{adds_more, adds_array}
use Rattle.job_gen.proofs.chains.put_nodes.Goals as goal

pub returns : goal.returns
returns c =
    let k = c.args.k in
    let rest = adds_then c.put_weak.ensures (adds_then c.put_leaf.ensures c.put_leaf-2.ensures) in
    adds_array (chain_nodes k) c.begin_array.ensures
    (adds_more (flat_map implication_nodes (range_with_len 0 k)) (weak_data k ∷ leaf_data 0 ∷ leaf_data k ∷ []) c.put_implications.ensures rest) c.end_array.ensures
