-- One more number on the way.
use Rattle.std.proofs.Common.{sym, ◌∙◌, arith}
use Rattle.exp_check.proofs.WayLaws.{along, next_there}
use Rattle.exp_check.proofs.cycles.cycle_along.Goals as goal

pub loop-distance-preserved : goal.loop-distance-preserved
loop-distance-preserved c =
    let l = c.loop-distance in
    let h = c.requires.measured in
    let r = along c.args.links.now _ c.args.start h.rounds c.args.distances.now h.distances l.distance l.number c.in-Some.next l.cycle.items c.push.new.self.items _
    c.loop-distance-test.true l.invariant.within l.invariant.here (sym c.in-Some.is ∙ c.next.ensures) c.in_ok-push-in-Some.ensures.items l.invariant.so_far in
    record { first = omega arith; within = r.0; here = r.1; so_far = r.2 }

pub unreachable-requires : goal.unreachable-requires
unreachable-requires c =
    let l = c.loop-distance in
    let h = c.requires.measured in
    next_there c.args.links.now _ c.args.start h.rounds c.args.distances.now h.distances l.distance l.number c.loop-distance-test.true l.invariant.within l.invariant.here
    (sym c.next.ensures ∙ c.in-None.is)
