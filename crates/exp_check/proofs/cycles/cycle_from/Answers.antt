-- By the distances.
use Rattle.std.proofs.Common.{length, get_or, sym, ap, subst, ◌∙◌, arith}
use Rattle.std.proofs.lemmas.List.{get_or_read}
use Rattle.exp_check.specs.Distances.{AreMeasured}
use Rattle.exp_check.proofs.WayLaws.{no_cycle_from, some_cycle_from, cycle_along_is}
use Rattle.exp_check.proofs.cycles.cycle_from.Goals as goal

pub returns-then-index-eq0 : goal.returns-then-index-eq0
returns-then-index-eq0 c =
    let ds = c.in_ok-distances.distances.items in
    let count = c.in_ok-distances.ensures.count in
    no_cycle_from c.args.links.now c.args.count c.args.start ds c.in_ok-distances.ensures c.requires.start
    (sym (get_or_read ds c.args.start c.index.result.now (omega (arith, count, c.requires.start)) c.index.ensures 0) ∙ c.if-index-eq0.true)

pub cycle_along-requires-clause-measured : goal.cycle_along-requires-clause-measured
cycle_along-requires-clause-measured c =
    subst (λ ds. AreMeasured c.args.links.now (length ds) c.args.start ds) (sym c.deref.ensures.value)
    (subst (λ n. AreMeasured c.args.links.now n c.args.start c.in_ok-distances.distances.items) (sym c.in_ok-distances.ensures.count) c.in_ok-distances.ensures)

pub cycle_along-requires-clause-reached : goal.cycle_along-requires-clause-reached
cycle_along-requires-clause-reached c =
    let ds = c.in_ok-distances.distances.items in
    let count = c.in_ok-distances.ensures.count in
    λ e. c.if-index-eq0.false
    (get_or_read ds c.args.start c.index.result.now (omega (arith, count, c.requires.start)) c.index.ensures 0 ∙ ap (λ es. get_or es c.args.start 0) (sym c.deref.ensures.value) ∙ e)

pub returns : goal.returns
returns c =
    let ds = c.in_ok-distances.distances.items in
    let count = c.in_ok-distances.ensures.count in
    some_cycle_from c.args.links.now c.args.count c.args.start ds c.in_ok-distances.ensures c.requires.start c.in_ok-cycle_along.field-0.items
    (λ e. c.if-index-eq0.false (get_or_read ds c.args.start c.index.result.now (omega (arith, count, c.requires.start)) c.index.ensures 0 ∙ e))
    (cycle_along_is c.args.links.now c.args.count c.args.start ds c.deref.result.now c.in_ok-cycle_along.field-0.items c.deref.ensures.value count c.in_ok-cycle_along.ensures)
