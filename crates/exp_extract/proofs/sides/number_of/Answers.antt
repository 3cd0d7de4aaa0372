-- The number stands at the place of the formula.
use Rattle.std.proofs.Common.{sym, arith}
use Rattle.exp_extract.proofs.FormulaPlaces.{in_range, number_at_place, number_at_no_place}
use Rattle.exp_extract.proofs.sides.number_of.Goals as goal

pub bounds-numbers-at : goal.bounds-numbers-at
bounds-numbers-at c = omega (arith, in_range c.args.formulas.now c.args.formula.now c.in-Some.at c.in-Some.ensures)

pub offset_bounds-numbers-at : goal.offset_bounds-numbers-at
offset_bounds-numbers-at c =
    let l = in_range c.args.formulas.now c.args.formula.now c.in-Some.at c.in-Some.ensures in
    omega (arith, l)

pub returns-in-Some : goal.returns-in-Some
returns-in-Some c = sym (number_at_place c.args.formulas.now c.args.numbers.now c.args.formula.now c.in-Some.at c.requires.rises c.requires.count c.in-Some.ensures)

pub returns-in-None : goal.returns-in-None
returns-in-None c = sym (number_at_no_place c.args.formulas.now c.args.numbers.now c.args.formula.now c.requires.rises c.requires.count c.in-None.ensures)
