use Rattle.std.proofs.Common.{◌≡◌, not, take}
use Rattle.std.specs.List.{filter}
use Rattle.search_laws.specs.Truth.{has_quantifier}
use Rattle.cut_intro.proofs.branch.plain.Given as goal

abbrev pub invariant-loop-formula : goal.invariant-loop-formula
invariant-loop-formula l = l.list.items ≡ filter (λ f. not (has_quantifier f)) (take l.formula-index l.formulas)
