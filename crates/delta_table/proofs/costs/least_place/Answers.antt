-- The least of one key more.
use Rattle.std.proofs.Common.{ℕ, ◌-◌, map, get_or, option_map, arith}
use Rattle.std.proofs.lemmas.List.{length-map}
use Rattle.finite.specs.Finite as set
use Rattle.herbrand_laws.specs.Patterns.{TermSet}
use Rattle.numbered_terms.specs.Numbered.{set_at}
use Rattle.delta_table.proofs.CostSteps.{least_step}
use Rattle.delta_table.proofs.costs.least_place.Goals as goal

pub loop-at-preserved : goal.loop-at-preserved
loop-at-preserved c =
    let a = c.args.cells.now in
    let sets = map (set_at a) c.args.keys.now in
    let at = c.loop-at.at in
    let long = length-map c.args.keys.now (set_at a) in
    record {
      low = omega (arith, c.loop-at.invariant.low);
      within = c.in_ok-lesser_place.ensures.within;
      value = λ (f : TermSet → ℕ) e.
          least_step f sets (at - 1) at (get_or sets c.in_ok-lesser_place.field-0 set.empty) (option_map (λ k. get_or sets k set.empty) c.loop-at.least)
          (omega (arith, c.loop-at.invariant.low)) (omega arith) (c.loop-at.invariant.value f e) (c.in_ok-lesser_place.ensures.value f e);
    }
