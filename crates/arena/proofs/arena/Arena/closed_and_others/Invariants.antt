-- The closed formulas so far and the others.
use Rattle.std.proofs.Common.{◌≡◌, ◌-◌, take, length}
use Rattle.std.specs.List.{filter}
use Rattle.arena.specs.Lists.{is_closed_at, is_open_at}
use Rattle.arena.proofs.arena.Arena.closed_and_others.Given as goal

abbrev pub invariant-loop-start : goal.invariant-loop-start
invariant-loop-start l = record {
  closed : l.closed.items ≡ filter (is_closed_at l.self) (take l.start l.numbers);
  others : l.others.items ≡ filter (is_open_at l.self) (take l.start l.numbers);
}

abbrev pub decreases-loop-start : goal.decreases-loop-start
decreases-loop-start l = length l.numbers - l.start
