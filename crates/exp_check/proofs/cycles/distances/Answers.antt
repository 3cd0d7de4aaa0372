-- One more step, or all that there are.
use Rattle.std.proofs.Common.{◌≡◌, ◌+◌, ◌++◌, take, drop, length, get_or, sym, ap, subst, ◌∙◌, arith}
use Rattle.exp_check.specs.Distances.{AreDistances, AreMeasured, spread_at}
use Rattle.exp_check.proofs.DistanceLaws.{more_known, measured_all, written_back}
use Rattle.exp_check.proofs.cycles.distances.Goals as goal

pub returns-then-not-spread : goal.returns-then-not-spread
returns-then-not-spread c =
    let old = c.loop-distance.distances.items in
    let new = c.spread.new.distances in
    let r = c.loop-distance.distance in
    let at : c.deref_mut.result.now ≡ old = c.deref_mut.ensures.value in
    let count : length new ≡ length old = c.spread.ensures.count ∙ ap length at in
    subst (AreMeasured c.args.links.now c.args.count c.args.start)
    (sym (written_back new old c.loop-distance.distances.len count (omega (arith, c.loop-distance.distances.ok.0))))
    (measured_all c.args.links.now c.args.count c.args.start r old c.loop-distance.invariant.distances c.requires.within c.loop-distance.invariant.first c.loop-distance.invariant.last
    c.loop-distance.invariant.count c.requires.start new
    (λ i. c.spread.ensures.values i ∙ ap (λ ds. spread_at c.args.links.now ds r i) at)
    (λ i. c.spread.ensures.same c.if-not-spread.true i ∙ ap (λ ds. get_or ds i 0) at)
    (count ∙ c.loop-distance.invariant.count))

pub loop-distance-preserved : goal.loop-distance-preserved
loop-distance-preserved c =
    let old = c.loop-distance.distances.items in
    let new = c.spread.new.distances in
    let r = c.loop-distance.distance in
    let at : c.deref_mut.result.now ≡ old = c.deref_mut.ensures.value in
    let count : length new ≡ length old = c.spread.ensures.count ∙ ap length at in
    let back : take c.loop-distance.distances.len (new ++ drop (length new) old) ≡ new = written_back new old c.loop-distance.distances.len count (omega (arith, c.loop-distance.distances.ok.0)) in
    record {
      first = omega arith;
      last = omega arith;
      count = ap length back ∙ count ∙ c.loop-distance.invariant.count;
      distances = subst (AreDistances c.args.links.now c.args.count c.args.start (r + 1)) (sym back)
          (more_known c.args.links.now c.args.count c.args.start r old c.loop-distance.invariant.distances c.requires.within c.loop-distance.invariant.first new
          (λ i. c.spread.ensures.values i ∙ ap (λ ds. spread_at c.args.links.now ds r i) at));
    }
