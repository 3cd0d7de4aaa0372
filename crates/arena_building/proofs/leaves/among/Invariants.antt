use Rattle.std.proofs.Common.{◌≡◌, ◌++◌, drop, filter}
use Rattle.lk_rules.specs.declared.sequent.Side.TheVariants.{Left}
use Rattle.arena_building.specs.Leaves.{leaf_numbers, is_number_in}
use Rattle.arena_building.proofs.leaves.among.Given as goal

abbrev pub invariant-loop-placed : goal.invariant-loop-placed
invariant-loop-placed l =
    l.common.items ++ filter (is_number_in l.numbers) (leaf_numbers Left (drop l.placed-index l.list)) ≡ filter (is_number_in l.numbers) (leaf_numbers Left l.list)
