-- The variables of the formulas so far are appended.
use Rattle.std.proofs.Common.{◌≡◌, ◌++◌, drop}
use Rattle.lk_rules.specs.Formulas.{var_lists}
use Rattle.lk_rules.proofs.formulas.Formulas.push_free_vars.Given as goal

abbrev pub invariant-loop-formula : goal.invariant-loop-formula
invariant-loop-formula l = l.initial.list.items ++ var_lists l.formula-items ≡ l.list.items ++ var_lists (drop l.formula-index l.formula-items)
