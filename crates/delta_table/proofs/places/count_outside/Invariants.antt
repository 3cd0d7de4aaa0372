-- What is counted so far goes on with the count of the rest.
use Rattle.std.proofs.Common.{◌≡◌, ◌≤◌, ◌+◌, drop, length}
use Rattle.delta_table.specs.Places.{lacks_place, kept_at}
use Rattle.delta_table.proofs.places.count_outside.Given as goal

abbrev pub invariant-loop-place : goal.invariant-loop-place
invariant-loop-place l = record {
  so_far : l.count + length (kept_at (lacks_place l.places) l.place (drop l.place l.tuples)) ≡ length (kept_at (lacks_place l.places) 0 l.tuples);
  within : l.count ≤ l.place;
}
