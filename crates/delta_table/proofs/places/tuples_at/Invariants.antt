-- What is kept so far goes on with what is kept of the rest.
use Rattle.std.proofs.Common.{◌≡◌, ◌++◌, drop}
use Rattle.delta_table.specs.Places.{has_place, kept_at}
use Rattle.delta_table.proofs.places.tuples_at.Given as goal

abbrev pub invariant-loop-place : goal.invariant-loop-place
invariant-loop-place l = l.kept.items ++ kept_at (has_place l.places) l.place (drop l.place l.tuples) ≡ kept_at (has_place l.places) 0 l.tuples
