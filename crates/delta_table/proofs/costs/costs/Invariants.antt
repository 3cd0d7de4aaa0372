-- The costs by the items so far.
use Rattle.std.proofs.Common.{◌≡◌, map, take}
use Rattle.delta_table.specs.Chosen.{raised, cost_at}
use Rattle.delta_table.proofs.costs.costs.Given as goal

abbrev pub invariant-loop-at : goal.invariant-loop-at
invariant-loop-at l = raised l.sums.all l.sums.each.items ≡ map (λ w. cost_at w (take l.at l.items) (take l.at l.tables)) l.keys
