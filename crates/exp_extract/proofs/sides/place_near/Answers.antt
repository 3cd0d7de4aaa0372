-- The place, where the formula stands.
use Rattle.std.proofs.Common.{refl, ap}
use Rattle.std.specs.Result.{result_ok}
use Rattle.exp_extract.proofs.FormulaPlaces.{place_of_formula, found_before}
use Rattle.exp_extract.proofs.sides.place_near.Goals as goal

pub returns-in-Some : goal.returns-in-Some
returns-in-Some c = ap result_ok (place_of_formula c.args.formulas.now c.args.formula.now c.in-Some.at c.requires.rises c.in-Some.ensures.some)

pub returns-in-None : goal.returns-in-None
returns-in-None c =
    let r = c.place_between-in-None in
    found_before c.args.formulas.now c.args.formula.now c.args.near r.result c.requires.rises (c.in-None.ensures.none refl) r.ensures.some r.ensures.none
