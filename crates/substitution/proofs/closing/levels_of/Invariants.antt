-- the levels of the variables that are passed
use Rattle.std.proofs.Common.{◌≡◌, take}
use Rattle.std.specs.BTreeMap.{get}
use Rattle.fol.specs.declared.symbols.Var.{Var}
use Rattle.fol.specs.Order.{var_cmp}
use Rattle.substitution.specs.Closing.{level_from}
use Rattle.substitution.proofs.closing.levels_of.Given as goal

abbrev pub invariant-loop-level : goal.invariant-loop-level
invariant-loop-level l = (v : Var) → get var_cmp l.levels v ≡ level_from 0 (take l.level l.vars) v
