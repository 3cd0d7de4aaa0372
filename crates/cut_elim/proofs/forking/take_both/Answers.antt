-- What is reached from the left premise stands in the larger arena too, as does what is reached from the right one.
use Rattle.std.proofs.Common.{Some, sym, ap, ◌∙◌, arith}
use Rattle.proof_trees.specs.Trees.{Tree}
use Rattle.arena_cells.specs.Standing.{HasTree, tree_at}
use Rattle.arena_cells.proofs.Facts as facts
use Rattle.arena_cells.proofs.Staying.{is_tree, tree_stays, tree_there}
use Rattle.cut_elim.proofs.forking.take_both.Goals as goal

pub returns-in-Ok-clause-both : goal.returns-in-Ok-clause-both
returns-in-Ok-clause-both c =
    let before = c.args.arena.now in
    let a = c.copy_tree.new.to in
    let both = c.args.both in
    let t = tree_at c.args.from.now both.left.proof in
    let there : HasTree a c.in-Ok.proof t = c.in-Ok.ensures.stands in
    record {
      left_there = facts.tree_there a c.in-Ok.proof t there;
      right_there = tree_there before a c.in-Ok.ensures.grown both.right.proof c.requires.right_there;
      left = c.requires.left ∙ ap (λ (x : Tree). Some (x, both.left.reductions)) (sym (is_tree a c.in-Ok.proof t there));
      right = c.requires.right ∙ ap (λ (x : Tree). Some (x, both.right.reductions)) (sym (tree_stays before a c.in-Ok.ensures.grown both.right.proof c.requires.right_there));
      within = omega (arith, c.if-budget-both.false, c.if-budget-both-2.false);
    }
