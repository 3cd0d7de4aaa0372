-- One tree more is entered.
use Rattle.exp_tree.proofs.Written.{each_next, roots_next}
use Rattle.exp_tree.proofs.writing.enter_each.Goals as goal

pub loop-tree-preserved : goal.loop-tree-preserved
loop-tree-preserved c =
    let es = c.args.trees.now in
    let k = c.loop-tree.tree-index in
    let e = c.tree-item.result in
    let so_far = c.loop-tree.invariant in
    let now = c.in_ok-place.ensures in
    let roots = roots_next es k e c.loop-tree.table c.enter.new.table c.loop-tree.places.items c.push.new.self.items c.in_ok-place.place c.loop-tree-test.true c.tree-item.is
    so_far.earlier so_far.roots now.trees now.place c.in_ok-push.ensures.items in
    record {
      trees = each_next es k e c.args.table.now c.loop-tree.table c.enter.new.table c.loop-tree-test.true c.tree-item.is so_far.trees now.trees;
      earlier = roots.0;
      roots = roots.1;
    }
