-- A number goes, stays or comes; what is left of both lists goes and comes.
use Rattle.std.proofs.Common.{◌≡◌, ℕ, ◌+◌, ◌-◌, List, length, take, drop, sym, length-drop, arith}
use Rattle.std.proofs.lemmas.List.{take_all}
use Rattle.std.specs.FinMap as fin
use Rattle.arena_graph.proofs.Changes.{more_goes, more_comes, more_stays, more_stay, none_change, all_changes}
use Rattle.arena_graph.proofs.SameRuns.{run_of_rest}
use Rattle.arena_graph.proofs.last_side.find_changes.Goals as goal

pub loop-i-preserved-in-Less : goal.loop-i-preserved-in-Less
loop-i-preserved-in-Less c = record {
  so_far = rw c.in_ok-push-in-Less.ensures.items (more_goes c.loop-i.changes.items c.args.old.now c.args.new.now c.loop-i.i c.loop-i.j c.loop-i.invariant.so_far (omega arith));
  old_left = omega arith;
  new_left = omega arith;
}

pub loop-i-init : goal.loop-i-init
loop-i-init c = record {
  so_far = rw c.clear.ensures.items (none_change c.args.old.now c.args.new.now c.same_run-i.result c.same_run-i.ensures);
  old_left = c.same_run-i.ensures.first;
  new_left = c.same_run-i.ensures.second;
}

pub loop-i-preserved-in-Equal : goal.loop-i-preserved-in-Equal
loop-i-preserved-in-Equal c =
    let stays = more_stays c.loop-i.changes.items c.args.old.now c.args.new.now c.loop-i.i c.loop-i.j c.loop-i.invariant.so_far (omega arith) (omega arith) (fin.nat_cmp-IsAntisymmetric _ _ (sym c.in-Equal.ensures)) in
    let same = run_of_rest c.args.old.now c.args.new.now (c.loop-i.i + 1) (c.loop-i.j + 1) c.same_run-run.result c.same_run-run.ensures in
    let old_at : c.loop-i.i + (1 + c.same_run-run.result) ≡ (c.loop-i.i + 1) + c.same_run-run.result = omega arith in
    let new_at : c.loop-i.j + (1 + c.same_run-run.result) ≡ (c.loop-i.j + 1) + c.same_run-run.result = omega arith in
    record {
      so_far = rw (old_at, new_at) (more_stay c.loop-i.changes.items c.args.old.now c.args.new.now (c.loop-i.i + 1) (c.loop-i.j + 1) stays c.same_run-run.result same);
      old_left = omega arith;
      new_left = omega arith;
    }

pub loop-i-preserved : goal.loop-i-preserved
loop-i-preserved c = record {
  so_far = rw c.in_ok-push-in-Greater.ensures.items (more_comes c.loop-i.changes.items c.args.old.now c.args.new.now c.loop-i.i c.loop-i.j c.loop-i.invariant.so_far (omega arith));
  old_left = omega arith;
  new_left = omega arith;
}

rest : (xs : List ℕ) (i : ℕ) → take (length xs - i) (drop i xs) ≡ drop i xs
rest xs i = take_all (length xs - i) (drop i xs) (omega (arith, length-drop i xs))

pub returns : goal.returns
returns c =
    rw (c.in_ok-extend_from_slice-2.ensures.items, c.in_ok-extend_from_slice.ensures.items, rest c.args.old.now c.loop-i.i, rest c.args.new.now c.loop-i.j)
    (all_changes c.loop-i.changes.items c.args.old.now c.args.new.now c.loop-i.i c.loop-i.j c.loop-i.invariant.so_far)
