-- The formula stands at none of the places so far.
use Rattle.exp_extract.specs.Sides.{HasNotBetween}
use Rattle.exp_extract.proofs.sides.place_between.Given as goal

abbrev pub invariant-loop-at : goal.invariant-loop-at
invariant-loop-at l = HasNotBetween l.formulas l.from l.at l.formula
