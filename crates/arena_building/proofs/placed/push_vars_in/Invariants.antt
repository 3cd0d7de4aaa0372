use Rattle.std.proofs.Common.{◌≡◌, ◌++◌, map, drop}
use Rattle.expansion_laws.specs.Dependency.{strongs_in}
use Rattle.exp_tree.specs.Shown.{insts_of}
use Rattle.arena_building.proofs.placed.push_vars_in.Given as goal

abbrev pub invariant-loop-instance : goal.invariant-loop-instance
invariant-loop-instance l =
    l.vars.items ++ strongs_in (insts_of (map (λ i. i.now) (drop l.instance-index l.instances))) ≡ l.initial.vars.items ++ strongs_in (insts_of (map (λ i. i.now) l.instances))
