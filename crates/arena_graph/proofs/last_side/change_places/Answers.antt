-- One more place follows.
use Rattle.std.proofs.Common.{length, sym}
use Rattle.arena_graph.proofs.Changes.{differ-false}
use Rattle.arena_graph.proofs.Following.{follow_more}
use Rattle.arena_graph.proofs.last_side.change_places.Goals as goal

pub change_place-requires : goal.change_place-requires
change_place-requires c = c.loop-number.invariant.places.rises

pub loop-number-init : goal.loop-number-init
loop-number-init c = record { places = c.requires.places; formulas = λ f. sym (differ-false _) }

pub loop-number-preserved : goal.loop-number-preserved
loop-number-preserved c =
    let es = c.args.ranks.now.entries.items in
    let before = c.loop-number.invariant in
    let placed = c.in-Some.ensures in
    let i = c.loop-number.number-index in
    follow_more c.args.arena.now es c.args.changes.now c.args.places.now.items c.loop-number.places.items c.change_place.new.places.items i c.in-Some.place c.loop-number-test.true placed.same before
    (record { rises = c.change_place.ensures.rises; within = c.change_place.ensures.within (length es) placed.within before.places.within }) c.in_ok-change_place.ensures.changed
