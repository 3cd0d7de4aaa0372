-- The run of closed formulas so far.
use Rattle.std.proofs.Common.{◌≡◌, ◌-◌, ◌≤◌, ◌++◌, take, length}
use Rattle.std.specs.List.{filter, slice_range}
use Rattle.arena.specs.Lists.{is_closed_at, is_open_at}
use Rattle.arena.proofs.arena.Arena.skip_closed.Given as goal

abbrev pub invariant-loop-place : goal.invariant-loop-place
invariant-loop-place l = record {
  forward : l.start ≤ l.place;
  within : l.place ≤ length l.numbers;
  closed : filter (is_closed_at l.self) (take l.place l.numbers) ≡ filter (is_closed_at l.self) (take l.start l.numbers) ++ slice_range l.numbers l.start l.place;
  others : filter (is_open_at l.self) (take l.place l.numbers) ≡ filter (is_open_at l.self) (take l.start l.numbers);
}

abbrev pub decreases-loop-place : goal.decreases-loop-place
decreases-loop-place l = length l.numbers - l.place
