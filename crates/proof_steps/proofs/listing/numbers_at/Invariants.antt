-- The numbers so far are those at the places.
use Rattle.std.proofs.Common.{◌≡◌, map, take}
use Rattle.std.specs.Prelude.{slice_index}
use Rattle.proof_steps.specs.Kept.{numbers_in}
use Rattle.proof_steps.proofs.listing.numbers_at.Given as goal

abbrev pub invariant-loop-place : goal.invariant-loop-place
invariant-loop-place l = l.numbers.items ≡ map (slice_index (numbers_in l.entries)) (take l.place-index l.places)
