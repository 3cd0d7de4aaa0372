-- The entries stay, and there is one place less to make.
use Rattle.std.proofs.Common.{◌≡◌, ℕ, ◌-◌, length, get_or}
use Rattle.std.specs.Prelude.{None}
use Rattle.arena.proofs.places.fill.Given as goal

abbrev pub invariant-loop-table : goal.invariant-loop-table
invariant-loop-table l = record {
  unchanged : (n : ℕ) → get_or l.table.items n None ≡ get_or l.fn.table.items n None;
}

abbrev pub decreases-loop-table : goal.decreases-loop-table
decreases-loop-table l = l.places - length l.table.items
