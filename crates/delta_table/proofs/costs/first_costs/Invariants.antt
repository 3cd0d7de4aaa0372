-- The costs of the keys so far.
use Rattle.std.proofs.Common.{◌≡◌, ℕ, ◌+◌, List, length, map, take}
use Rattle.delta_table.proofs.costs.first_costs.Given as goal

abbrev pub invariant-loop-key : goal.invariant-loop-key
invariant-loop-key l = l.costs.items ≡ map (λ (k : List ℕ). 1 + length k) (take l.key-index l.keys)
