-- The levels are below the number of variables.
use Rattle.std.proofs.Common.{◌≡◌, length, subst, rules}
use Rattle.std.specs.BTreeMap.{get}
use Rattle.fol.specs.Order.{var_cmp}
use Rattle.substitution.specs.Closing.{AreBelow}
use Rattle.substitution.proofs.ClosingLaws.{levels_below}
use Rattle.substitution.proofs.closing.bind_each.Goals as goal

pub bind_each_at-requires : goal.bind_each_at-requires
bind_each_at-requires c =
    let count : length c.args.vars.now ≡ c.in_ok-count.count = search rules in
    subst (AreBelow (get var_cmp c.in_ok-levels.levels)) count (levels_below c.args.vars.now (get var_cmp c.in_ok-levels.levels) c.in_ok-levels.ensures)
