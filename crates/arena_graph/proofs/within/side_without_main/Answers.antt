-- The set is within the other one without the formula that it lacks.
use Rattle.std.proofs.Common.{◌≡◌, false, length, ap, sym, ◌∙◌, arith}
use Rattle.finite.specs.Finite as set
use Rattle.arena_cells.specs.Standing.{formula_at, side_at}
use Rattle.arena_graph.proofs.Sizes.{within_others, same_side}
use Rattle.arena_graph.proofs.within.side_without_main.Goals as goal

pub returns-then-side_numbers-as_slice-clause-side : goal.returns-then-side_numbers-as_slice-clause-side
returns-then-side_numbers-as_slice-clause-side c =
    let a = c.args.arena.now in
    let b = c.side_without.new.self in
    let s = c.args.formulas.now in
    let others = c.in_ok-others.others in
    let out : set.has s (formula_at a c.args.main) ≡ false = ap (set.has s) (sym c.formula.ensures) ∙ sym c.if-has.ensures in
    let inside = within_others s (side_at a c.args.most) (side_at b others) (formula_at a c.args.main) c.requires.within out c.in_ok-others.ensures.members in
    same_side b others c.side_numbers.result.now s c.in_ok-others.ensures.side c.side_numbers.ensures.shown inside (omega (arith, c.if-side_numbers-as_slice.true, ap length c.as_slice.ensures.listing))
