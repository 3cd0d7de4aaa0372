-- What is there and what is left are the set's formulas.
use Rattle.std.proofs.Common.{◌≡◌, ◌++◌}
use Rattle.prop_search.proofs.parts.listed.Given as goal

abbrev pub invariant-loop-formula : goal.invariant-loop-formula
invariant-loop-formula l = l.formulas.items ++ l.formula-iterator ≡ l.seen.keys
