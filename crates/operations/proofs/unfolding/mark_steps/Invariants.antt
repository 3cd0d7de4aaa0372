-- The steps so far have the definitions put into them.
use Rattle.std.proofs.Common.{◌≡◌, map, take}
use Rattle.std.specs.List.{All}
use Rattle.def_laws.specs.Marking.{marked_step}
use Rattle.lk_rules.specs.Rules.{IsFormedRule}
use Rattle.operations.proofs.unfolding.mark_steps.Given as goal

abbrev pub invariant-loop-step : goal.invariant-loop-step
invariant-loop-step l = (l.marked.items ≡ map (marked_step l.symbols) (take l.step-index l.steps)) × All (λ s. IsFormedRule s.rule) l.marked.items
