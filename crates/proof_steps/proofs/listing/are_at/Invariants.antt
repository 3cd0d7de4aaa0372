-- The numbers so far are those at the places.
use Rattle.std.proofs.Common.{◌≡◌, map, take}
use Rattle.std.specs.Prelude.{slice_index}
use Rattle.proof_steps.specs.Kept.{numbers_in}
use Rattle.proof_steps.proofs.listing.are_at.Given as goal

abbrev pub invariant-loop-i : goal.invariant-loop-i
invariant-loop-i l = take l.i l.numbers ≡ map (slice_index (numbers_in l.entries)) (take l.i l.places)
