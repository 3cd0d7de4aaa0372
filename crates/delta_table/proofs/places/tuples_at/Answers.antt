-- What is kept of the rest begins with an element, or goes on without it.
use Rattle.std.proofs.Common.{sym, ◌∙◌, arith}
use Rattle.std.proofs.lemmas.Grind.{common_steps}
use Rattle.fol.specs.Syntax.{nil}
use Rattle.delta_table.specs.Places.{has_place}
use Rattle.delta_table.proofs.PlaceSets.{kept_yes, kept_no}
use Rattle.delta_table.proofs.places.tuples_at.Goals as goal
use Rattle.delta_table.proofs.places.tuples_at.Goals.{then-has_place+in_ok-copy+in_ok-push, else-has_place}

pub loop-place-preserved : goal.loop-place-preserved
loop-place-preserved c =
    elim c.if-has_place.branch [
      | then-has_place+in_ok-copy+in_ok-push w ↦
          let here = kept_yes (has_place c.args.places) c.loop-place.place c.args.tuples.now w.index-tuples-place.result (omega arith) (sym c.has_place.ensures ∙ w.if-has_place.true) in
          grind (arith, common_steps)
      | else-has_place w ↦
          let here = kept_no (has_place c.args.places) c.loop-place.place c.args.tuples.now nil (omega arith) (sym c.has_place.ensures ∙ w.if-has_place.false) in
          grind (arith, common_steps)
    ]
