-- The costs so far, with what is added to each.
use Rattle.std.proofs.Common.{◌≡◌, take}
use Rattle.delta_table.specs.Chosen.{raised}
use Rattle.delta_table.proofs.costs.Sums.totals.Given as goal

abbrev pub invariant-loop-cost : goal.invariant-loop-cost
invariant-loop-cost l = l.totals.items ≡ raised l.self.all (take l.cost-index l.self.each.items)
