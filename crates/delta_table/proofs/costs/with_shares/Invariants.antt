-- The sums so far go on with the others.
use Rattle.std.proofs.Common.{◌≡◌, ◌+◌, ◌++◌, drop}
use Rattle.delta_table.specs.Chosen.{zipped, share}
use Rattle.delta_table.proofs.costs.with_shares.Given as goal

abbrev pub invariant-loop-at : goal.invariant-loop-at
invariant-loop-at l = l.sums.items ++ zipped (λ c t. c + share l.item t) (drop l.at l.costs) (drop l.at l.tallies) ≡ zipped (λ c t. c + share l.item t) l.costs l.tallies
