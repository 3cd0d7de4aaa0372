-- None of the formulas so far has a quantifier.
use Rattle.std.proofs.Common.{◌≡◌, drop}
use Rattle.std.specs.Prelude.{find}
use Rattle.search_laws.specs.Truth.{has_quantifier}
use Rattle.operations.proofs.searching.first_quantified.Given as goal

abbrev pub invariant-loop-formula : goal.invariant-loop-formula
invariant-loop-formula l = find has_quantifier l.formulas ≡ find has_quantifier (drop l.formula-index l.formulas)
