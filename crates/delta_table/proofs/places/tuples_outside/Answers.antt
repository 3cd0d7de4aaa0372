-- What is kept of the rest begins with an element, or goes on without it.
use Rattle.std.proofs.Common.{sym, ◌∙◌, arith}
use Rattle.std.proofs.lemmas.Grind.{common_steps}
use Rattle.fol.specs.Syntax.{nil}
use Rattle.delta_table.specs.Places.{lacks_place}
use Rattle.delta_table.proofs.PlaceSets.{kept_yes, kept_no}
use Rattle.delta_table.proofs.places.tuples_outside.Goals as goal
use Rattle.delta_table.proofs.places.tuples_outside.Goals.{then-lacks_place+in_ok-copy+in_ok-push, else-lacks_place}

pub loop-place-preserved : goal.loop-place-preserved
loop-place-preserved c =
    elim c.if-lacks_place.branch [
      | then-lacks_place+in_ok-copy+in_ok-push w ↦
          let here = kept_yes (lacks_place c.args.places) c.loop-place.place c.args.tuples.now w.index-tuples-place.result (omega arith) (sym c.lacks_place.ensures ∙ w.if-lacks_place.true) in
          grind (arith, common_steps)
      | else-lacks_place w ↦
          let here = kept_no (lacks_place c.args.places) c.loop-place.place c.args.tuples.now nil (omega arith) (sym c.lacks_place.ensures ∙ w.if-lacks_place.false) in
          grind (arith, common_steps)
    ]
