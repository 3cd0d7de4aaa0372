-- An element more is counted, or not.
use Rattle.std.proofs.Common.{length, sym, ap, ◌∙◌, arith}
use Rattle.fol.specs.Syntax.{nil}
use Rattle.delta_table.specs.Places.{lacks_place}
use Rattle.delta_table.proofs.PlaceSets.{kept_yes, kept_no}
use Rattle.delta_table.proofs.places.count_outside.Goals as goal
use Rattle.delta_table.proofs.places.count_outside.Goals.{then-lacks_place, else-lacks_place}

pub loop-place-preserved : goal.loop-place-preserved
loop-place-preserved c =
    elim c.if-lacks_place.branch [
      | then-lacks_place w ↦
          let here = ap length (kept_yes (lacks_place c.args.places) c.loop-place.place c.args.tuples.now nil (omega arith) (sym c.lacks_place.ensures ∙ w.if-lacks_place.true)) in
          record { so_far = omega arith; within = omega arith }
      | else-lacks_place w ↦
          let here = ap length (kept_no (lacks_place c.args.places) c.loop-place.place c.args.tuples.now nil (omega arith) (sym c.lacks_place.ensures ∙ w.if-lacks_place.false)) in
          record { so_far = omega arith; within = omega arith }
    ]
