-- The entries so far are steps.
use Rattle.std.proofs.Common.{◌≡◌, map, take}
use Rattle.proof_steps.specs.Kept.{entry_step}
use Rattle.proof_steps.proofs.listing.steps_of_entries.Given as goal

abbrev pub invariant-loop-entry : goal.invariant-loop-entry
invariant-loop-entry l = l.steps.items ≡ map entry_step (take l.entry-index l.entries)
