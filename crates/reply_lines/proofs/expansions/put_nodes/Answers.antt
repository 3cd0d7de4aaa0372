use Rattle.std.proofs.Common.{ℕ, List, ◌∷◌, codes, subst}
use Rattle.json.specs.Token.{key}
use Rattle.exp_tree.specs.declared.flat.ExpNode.{ExpNode}
use Rattle.reply_lines.specs.Replies.{numbers_data, node_list}
use Rattle.json_text.specs.Tokens.{data_tokens, Adds}
use Rattle.json_text.proofs.Adding.{adds_then}
use Rattle.reply_lines.proofs.expansions.put_nodes.Goals as goal

pub returns : goal.returns
returns c =
    let left = subst (λ (ns : List ℕ). Adds c.begin_object.new.self c.put_numbers.new.out (key (codes "left") ∷ data_tokens (numbers_data ns))) c.as_slice.ensures c.put_numbers.ensures in
    let nodes = subst (λ (ns : List ExpNode). Adds c.key.new.self c.put_list.new.out (data_tokens (node_list ns))) c.as_slice-2.ensures.nodes c.put_list.ensures in
    let right = subst (λ (ns : List ℕ). Adds c.put_list.new.out c.put_numbers-2.new.out (key (codes "right") ∷ data_tokens (numbers_data ns))) c.as_slice-3.ensures c.put_numbers-2.ensures in
    adds_then c.begin_object.ensures (adds_then left (adds_then c.key.ensures (adds_then nodes (adds_then right c.end_object.ensures))))
