use Rattle.std.proofs.Common.{◌≡◌, ◌++◌, take}
use Rattle.std.specs.List.{flat_map}
use Rattle.free_variables.specs.Occurrence.{var_list_terms}
use Rattle.cut_intro.proofs.variables.push_tuples_vars.Given as goal

abbrev pub invariant-loop-tuple : goal.invariant-loop-tuple
invariant-loop-tuple l = l.list.items ≡ l.initial.list.items ++ flat_map var_list_terms (take l.tuple-index l.tuples)
