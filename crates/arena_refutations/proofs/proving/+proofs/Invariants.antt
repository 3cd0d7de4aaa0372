-- The places get smaller.
use Rattle.std.proofs.Common.{◌+◌, ◌*◌}
use Rattle.arena_refutations.proofs.proving.+proofs.Given as goal

abbrev pub decreases-prove : goal.decreases-prove
decreases-prove l = 2 * l.place + 1

abbrev pub decreases-prove_new : goal.decreases-prove_new
decreases-prove_new l = 2 * l.place
