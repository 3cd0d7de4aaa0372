-- The matrix instances of one more item.
use Rattle.std.proofs.Common.{[], ◌++◌, map, ap, ◌∙◌}
use Rattle.herbrand_laws.specs.Herbrand.{Item, matrix_instance, on_side}
use Rattle.cut_intro.proofs.Steps.{flat_map_one}
use Rattle.cut_intro.proofs.items.matrices_on.Goals as goal

pub loop-item-preserved : goal.loop-item-preserved
loop-item-preserved c =
    let f = λ (i : Item). on_side c.args.side i.side (map (λ us. matrix_instance us i.formula) i.tuples) in
    record {
      so_far =
          c.in_ok-push_on_side.ensures.items
          ∙ (ap (λ fs. fs ++ f c.item-item.result) c.loop-item.invariant.so_far
          ∙ flat_map_one c.args.items.now c.loop-item.item-index c.item-item.result c.loop-item-test.true c.item-item.is f []);
      formed = c.push_on_side.ensures.formed;
    }
