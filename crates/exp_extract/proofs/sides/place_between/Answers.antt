-- Another place where the formula doesn't stand.
use Rattle.std.proofs.Common.{sym, ◌∙◌, arith}
use Rattle.exp_extract.proofs.FormulaPlaces.{one_more}
use Rattle.exp_extract.proofs.ToldApart.{told_at}
use Rattle.exp_extract.proofs.sides.place_between.Goals as goal

pub loop-at-preserved : goal.loop-at-preserved
loop-at-preserved c =
    one_more c.args.formulas.now c.args.formula.now c.index-formulas-at.result c.args.from c.loop-at.at (omega arith) c.index-formulas-at.is (sym c.are_equal.ensures ∙ c.if-are_equal.false) c.loop-at.invariant

pub are_equal-requires : goal.are_equal-requires
are_equal-requires c told same = told_at c.args.formulas.now c.args.formula.now c.index-formulas-at.result c.loop-at.at (omega arith) c.index-formulas-at.is (c.requires.told told) same
