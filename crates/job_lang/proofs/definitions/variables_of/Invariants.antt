-- the variables so far and the elements that are left make what all are, and those that were seen are these
use Rattle.std.proofs.Common.{◌≡◌, [], drop, map, is_some}
use Rattle.std.specs.List.{All}
use Rattle.std.specs.BTreeMap.{get}
use Rattle.fol.specs.declared.symbols.Var.{Var}
use Rattle.fol.specs.Order.{var_cmp}
use Rattle.fol.specs.Formed.{IsFormedVar}
use Rattle.free_variables.specs.Fresh.{is_among}
use Rattle.line_values.specs.View.{view}
use Rattle.job_lang.specs.Definitions.{variables_behind}
use Rattle.job_lang.proofs.definitions.variables_of.Given as goal

abbrev pub invariant-loop-index : goal.invariant-loop-index
invariant-loop-index l =
    (variables_behind l.vars.items l.index (map view (drop l.index l.values)) ≡ variables_behind [] 0 (map view l.values))
    × (All IsFormedVar l.vars.items × ((v : Var) → is_some (get var_cmp l.seen v) ≡ is_among v l.vars.items))
