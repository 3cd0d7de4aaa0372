use Rattle.std.proofs.Common.{◌≡◌, ◌++◌, map, take}
use Rattle.herbrand_laws.specs.Introduction.{rules_for}
use Rattle.cut_intro.specs.Instances.{meant}
use Rattle.cut_intro.proofs.rules.push_rules_for.Given as goal

abbrev pub invariant-loop-instance : goal.invariant-loop-instance
invariant-loop-instance l = l.rules.items ≡ l.initial.rules.items ++ rules_for (map meant (take l.instance-index l.instances))
