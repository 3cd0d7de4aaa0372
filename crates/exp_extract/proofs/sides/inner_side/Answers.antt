-- Each formula is told apart, and its number stands at its place in the conclusion, where it has one.
use Rattle.std.proofs.Common.{◌≡◌, Some, sym, ap, ◌∙◌, subst, rules, arith}
use Rattle.exp_extract.specs.Fingerprints.{IsToldApart}
use Rattle.exp_extract.specs.Sides.{auxiliary_place, or_else, inner_number}
use Rattle.exp_extract.proofs.FormulaPlaces.{in_range, number_at_place, number_at_no_place}
use Rattle.exp_extract.proofs.NumberedFormulas.{numbers_more}
use Rattle.exp_extract.proofs.sides.inner_side.Goals as goal

pub place_near-requires-clause-told : goal.place_near-requires-clause-told
place_near-requires-clause-told c told =
    subst (IsToldApart c.args.conclusion.now) (sym c.formula-item.is) (c.requires.told told c.loop-formula.formula-index c.formula-item.result c.loop-formula-test.true)

pub bounds-numbers-at : goal.bounds-numbers-at
bounds-numbers-at c = omega (arith, c.requires.count, in_range c.args.conclusion.now c.formula-item.result c.in-Some.at c.in-Some.ensures)

pub offset_bounds-numbers-at : goal.offset_bounds-numbers-at
offset_bounds-numbers-at c =
    let l = in_range c.args.conclusion.now c.formula-item.result c.in-Some.at c.in-Some.ensures in
    omega (arith, c.requires.count, l)

pub overflow_add-near : goal.overflow_add-near
overflow_add-near c =
    let l = in_range c.args.conclusion.now c.formula-item.result c.in-Some.at c.in-Some.ensures in
    omega (arith, c.requires.count, l)

pub loop-formula-preserved-in-Some : goal.loop-formula-preserved-in-Some
loop-formula-preserved-in-Some c =
    let h = c.formula-item.result in
    let l = in_range c.args.conclusion.now h c.in-Some.at c.in-Some.ensures in
    let number = ap (λ o. or_else o (auxiliary_place c.args.auxiliary.now c.args.premise c.args.side h))
    (sym (number_at_place c.args.conclusion.now c.args.numbers.now h c.in-Some.at c.requires.rises c.requires.count c.in-Some.ensures)) in
    record {
      numbers = numbers_more (inner_number c.args.conclusion.now c.args.numbers.now c.args.auxiliary.now c.args.premise c.args.side) c.args.formulas.now c.loop-formula.formula-index h c.loop-formula.list.items c.push_reserved.new.self.items _
          c.loop-formula-test.true c.formula-item.is c.push_reserved.ensures.items number c.loop-formula.invariant.numbers;
      near = omega (arith, l);
      room = search rules;
    }

pub loop-formula-preserved : goal.loop-formula-preserved
loop-formula-preserved c =
    let h = c.formula-item.result in
    let auxiliary : Some c.in_ok-number.number ≡ auxiliary_place c.args.auxiliary.now c.args.premise c.args.side h = search rules in
    let number = auxiliary ∙ ap (λ o. or_else o (auxiliary_place c.args.auxiliary.now c.args.premise c.args.side h))
    (sym (number_at_no_place c.args.conclusion.now c.args.numbers.now h c.requires.rises c.requires.count c.in_default.ensures)) in
    record {
      numbers = numbers_more (inner_number c.args.conclusion.now c.args.numbers.now c.args.auxiliary.now c.args.premise c.args.side) c.args.formulas.now c.loop-formula.formula-index h c.loop-formula.list.items c.push_reserved-in-loop-formula.new.self.items
          c.in_ok-number.number c.loop-formula-test.true c.formula-item.is c.push_reserved-in-loop-formula.ensures.items number c.loop-formula.invariant.numbers;
      near = c.loop-formula.invariant.near;
      room = search rules;
    }
