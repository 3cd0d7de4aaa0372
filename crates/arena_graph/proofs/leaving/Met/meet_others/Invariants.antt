-- The formulas so far stand at their numbers.
use Rattle.std.proofs.Common.{◌+◌, ◌-◌, ◌≤◌, length}
use Rattle.arena_graph.specs.Leaving.{HasMet}
use Rattle.arena_graph.proofs.leaving.Met.meet_others.Given as goal

abbrev pub invariant-loop-j : goal.invariant-loop-j
invariant-loop-j l = record {
  met : HasMet l.arena l.self;
  last_left : l.i ≤ length l.last;
  left : l.j ≤ length l.formulas;
}

abbrev pub decreases-loop-j : goal.decreases-loop-j
decreases-loop-j l = (length l.last - l.i) + (length l.formulas - l.j)
