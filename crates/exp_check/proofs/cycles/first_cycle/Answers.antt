-- A cycle begins at a number, or none does.
use Rattle.std.proofs.Common.{◌≡◌, false, below_more, sym, ap, ◌∙◌, arith}
use Rattle.std.specs.Prelude.{is_some}
use Rattle.std.specs.Option.{option_map}
use Rattle.std.specs.List.{range_with_len}
use Rattle.std.proofs.lemmas.List.{get_or_read}
use Rattle.expansion_laws.specs.Cycles.{fewest}
use Rattle.exp_check.specs.Links.{has_link}
use Rattle.exp_check.proofs.WayLaws.{none_fewest, none_from, first_from, none_first, is_some_map}
use Rattle.exp_check.proofs.cycles.first_cycle.Goals as goal
use Rattle.exp_check.proofs.cycles.first_cycle.Goals.{then-index+in_ok-found+else-is_some+in-Some-1, then-index+in_ok-found+else-is_some+in-None-1, else-index}

pub returns-then-is_some : goal.returns-then-is_some
returns-then-is_some c =
    first_from (has_link c.args.links.now) c.args.count (option_map (λ ns. ns.items) c.in_ok-found.found) c.loop-start.start c.loop-start-test.true c.in_ok-found.ensures
    (is_some_map (λ ns. ns.items) c.in_ok-found.found ∙ sym c.is_some.ensures ∙ c.if-is_some.true) c.loop-start.invariant

pub loop-start-preserved : goal.loop-start-preserved
loop-start-preserved c =
    let ls = c.args.links.now in
    let v = c.loop-start.start in
    let count = c.in_ok-candidates.ensures.count in
    below_more (λ i. is_some (fewest (has_link ls) (range_with_len 0 c.args.count) i i) ≡ false) v c.loop-start.invariant
    (elim c.if-index.branch [
      | then-index+in_ok-found+else-is_some+in-Some-1 w ↦
          none_from (has_link ls) c.args.count (option_map (λ ns. ns.items) w.in_ok-found.found) v w.in_ok-found.ensures
          (is_some_map (λ ns. ns.items) w.in_ok-found.found ∙ sym w.is_some.ensures ∙ w.if-is_some.false)
      | then-index+in_ok-found+else-is_some+in-None-1 w ↦
          none_from (has_link ls) c.args.count (option_map (λ ns. ns.items) w.in_ok-found.found) v w.in_ok-found.ensures
          (is_some_map (λ ns. ns.items) w.in_ok-found.found ∙ sym w.is_some.ensures ∙ w.if-is_some.false)
      | else-index w ↦
          let none = sym (get_or_read c.in_ok-candidates.candidates.items v c.index.result.now (omega (arith, count, c.loop-start-test.true)) c.index.ensures false) ∙ w.if-index.false in
          ap is_some (none_fewest ls c.args.count v (λ k less. c.in_ok-candidates.ensures.others v k c.loop-start-test.true none))
    ])

pub returns : goal.returns
returns c = none_first (has_link c.args.links.now) c.args.count (λ i within. c.loop-start.invariant i (omega (arith, within, c.loop-start-test.false)))
