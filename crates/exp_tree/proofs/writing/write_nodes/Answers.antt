-- What is written is read as the same trees.
use Rattle.std.proofs.Common.{ap, ◌∙◌}
use Rattle.exp_tree.specs.Reads.{expansion_of}
use Rattle.exp_tree.specs.Subtrees.{subtrees_each, with_each}
use Rattle.exp_tree.proofs.Written.{IsWritten, written_roots}
use Rattle.exp_tree.proofs.writing.write_nodes.Goals as goal

is_written : (c : goal.In_ok-nodes) → IsWritten (expansion_of c.args.exps.now) c.enter_each-2.new.table record { nodes = c.in_ok-nodes.nodes; left = c.in_ok-left.left; right = c.in_ok-right.right }
is_written c =
    let x = expansion_of c.args.exps.now in
    written_roots x c.enter_each.new.table c.enter_each-2.new.table record { nodes = c.in_ok-nodes.nodes; left = c.in_ok-left.left; right = c.in_ok-right.right }
    (c.in_ok-left.ensures.trees ∙ (λ k. with_each (c.new-table.ensures k) (subtrees_each (c.as_slice.ensures.trees k))))
    (c.in_ok-right.ensures.trees ∙ ap (λ es. with_each c.enter_each.new.table (subtrees_each es)) c.as_slice-2.ensures.trees)
    c.known.ensures c.in_ok-nodes.ensures.nodes c.in_ok-nodes.ensures.trees c.in_ok-nodes.ensures.right
    c.in_ok-left.ensures.earlier (c.in_ok-left.ensures.roots ∙ c.as_slice.ensures.trees) c.in_ok-right.ensures.earlier (c.in_ok-right.ensures.roots ∙ c.as_slice-2.ensures.trees)
    c.as_slice.ensures.arranged c.as_slice-2.ensures.arranged c.requires.left c.requires.right

pub returns-clause-written : goal.returns-clause-written
returns-clause-written c = (is_written c).written

pub returns-clause-right : goal.returns-clause-right
returns-clause-right c = (is_written c).right

pub returns-clause-read : goal.returns-clause-read
returns-clause-read c = (is_written c).read
