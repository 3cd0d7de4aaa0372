-- One reference more is settled.
use Rattle.std.proofs.Common.{map, length, ap, arith}
use Rattle.std.specs.Vec.Iter.{into_iter_items}
use Rattle.std.proofs.lemmas.List.{length_push}
use Rattle.std.proofs.lemmas.List.Elements.{All-rest}
use Rattle.proof_graph.specs.declared.index.Entered.{Entered}
use Rattle.proof_graph.specs.References.{Reference}
use Rattle.proof_graph.specs.Entered.{IsEntered, tree_entered, made_in}
use Rattle.proof_graph.proofs.Several.{moved, moved_seen}
use Rattle.proof_graph.proofs.index.settle_each.Goals as goal

pub loop-one-preserved : goal.loop-one-preserved
loop-one-preserved c =
    let before = c.loop-one.invariant in
    let done = c.loop-one.made.items in
    let left = into_iter_items c.loop-one.one-iterator in
    let rest = into_iter_items c.next.new.self in
    let taken = c.in-Some.ensures.steps.0 in
    record {
      next = tt;
      finite = tt;
      entered = All-rest (IsEntered c.args.nodes.now) c.in-Some.one rest left taken before.entered;
      made =
          rw c.push_reserved.ensures.items
          (moved (λ (e : Entered). e.made) done c.settle.result c.in-Some.one left rest (made_in c.args.entered.items) before.made taken c.settle.ensures.made);
      trees =
          rw c.push_reserved.ensures.items
          (moved_seen tree_entered (λ (r : Reference). r.tree) done c.settle.result c.in-Some.one left rest (map tree_entered c.args.entered.items) before.trees taken c.settle.ensures.tree);
      room = omega (arith, before.room, ap length taken, ap length c.push_reserved.ensures.items, length_push done c.settle.result, c.push_reserved.ensures.capacity);
    }
