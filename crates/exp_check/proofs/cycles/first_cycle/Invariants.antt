use Rattle.std.proofs.Common.{◌≡◌, ℕ, ◌<◌, false}
use Rattle.std.specs.Prelude.{is_some}
use Rattle.std.specs.List.{range_with_len}
use Rattle.exp_check.specs.Links.{has_link}
use Rattle.expansion_laws.specs.Cycles.{fewest}
use Rattle.exp_check.proofs.cycles.first_cycle.Given as goal

abbrev pub invariant-loop-start : goal.invariant-loop-start
invariant-loop-start l = (i : ℕ) → i < l.start → is_some (fewest (has_link l.links) (range_with_len 0 l.count) i i) ≡ false
