-- What is mixed so far, with the numbers that are left, gives the whole.
use Rattle.std.proofs.Common.{◌≡◌, length}
use Rattle.arena_cells.specs.Keys.{mixed_pairs}
use Rattle.arena_cells.proofs.same_keys.with_numbers.Given as goal

abbrev pub invariant-loop-rest : goal.invariant-loop-rest
invariant-loop-rest l = mixed_pairs l.mixed l.rest ≡ mixed_pairs l.fingerprint l.numbers

abbrev pub decreases-loop-rest : goal.decreases-loop-rest
decreases-loop-rest l = length l.rest
