-- One more closed formula goes on with the run.
use Rattle.std.proofs.Common.{◌≡◌, ◌<◌, true, false, length, get_or, sym, ◌∙◌, arith}
use Rattle.arena.specs.Lists.{is_closed_at, is_open_at}
use Rattle.arena.proofs.ClosedLaws.{not_true}
use Rattle.arena.proofs.Runs.{goes_on, left_out}
use Rattle.arena.proofs.arena.Arena.skip_closed.Goals as goal

pub loop-place-preserved : goal.loop-place-preserved
loop-place-preserved c =
    let a = c.args.self.now in
    let ns = c.args.numbers.now in
    let place = c.loop-place.place in
    let so_far = c.loop-place.invariant in
    let within : place < length ns = omega arith in
    let x = get_or ns place 0 in
    let found : is_closed_at a x ≡ true = sym c.is_closed.ensures ∙ c.if-is_closed.true in
    let shut : is_open_at a x ≡ false = not_true (is_open_at a x) found in
    record {
      forward = omega (arith, so_far.forward);
      within = omega arith;
      closed = goes_on ns (is_closed_at a) place c.args.start so_far.closed within so_far.forward found;
      others = left_out ns (is_open_at a) place within shut ∙ so_far.others;
    }
