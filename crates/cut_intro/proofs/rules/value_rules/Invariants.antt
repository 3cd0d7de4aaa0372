use Rattle.std.proofs.Common.{◌≡◌, map, take}
use Rattle.lk_rules.specs.declared.rule.Rule.TheVariants.{AllL}
use Rattle.cut_intro.proofs.rules.value_rules.Given as goal

abbrev pub invariant-loop-value : goal.invariant-loop-value
invariant-loop-value l = l.rules.items ≡ map (AllL l.cut) (take l.value-index l.values)
