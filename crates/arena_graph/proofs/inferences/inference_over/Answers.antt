-- The inference of the root is right, since the tree is valid, and the root over the premises' trees is the tree.
use Rattle.std.proofs.Common.{sym, ◌∙◌}
use Rattle.proof_trees.specs.Trees.{node}
use Rattle.arena_cells.specs.Standing.{tree_at}
use Rattle.arena_cells.proofs.Staying.{is_sequent}
use Rattle.arena_graph.proofs.Trees.{root_tree, inference_of}
use Rattle.arena_graph.proofs.inferences.inference_over.Goals as goal

pub returns-clause-of : goal.returns-clause-of
returns-clause-of c =
    let a = c.args.arena.now in
    record {
      premises = c.requires.premises_of;
      right = inference_of (tree_at a c.args.proof) c.in_ok-rule.rule c.in_ok-end.end _ (c.in_ok-rule.ensures ∙ sym c.rule.ensures.rule) (c.in_ok-end.ensures.end ∙ is_sequent a c.end.result _ c.end.ensures) c.requires.trees c.requires.leaving.valid;
    }

pub returns-clause-tree : goal.returns-clause-tree
returns-clause-tree c =
    let a = c.args.arena.now in
    (λ i. node ((c.in_ok-rule.ensures ∙ sym c.rule.ensures.rule) i) ((c.in_ok-end.ensures.end ∙ is_sequent a c.end.result _ c.end.ensures) i) (c.requires.trees i)) ∙ root_tree (tree_at a c.args.proof)
