use Rattle.std.proofs.Common.{sym, ◌∙◌, arith}
use Rattle.prop_search.proofs.Numbers.{found_place, found_listed}
use Rattle.prop_search.proofs.numbering.number_of.Goals as goal

pub overflow_cast-result : goal.overflow_cast-result
overflow_cast-result c = let at = found_place c.args.formula.now c.args.formulas.now c.in-Ok.place (sym c.search.ensures ∙ c.in-Ok.is) in omega (arith, at.0)

pub returns : goal.returns
returns c = found_place c.args.formula.now c.args.formulas.now c.in-Ok.place (sym c.search.ensures ∙ c.in-Ok.is)

pub unreachable-requires : goal.unreachable-requires
unreachable-requires c = found_listed c.args.formula.now c.args.formulas.now c.in-Err.field-0 c.requires.rises c.requires.listed (sym c.search.ensures ∙ c.in-Err.is)
