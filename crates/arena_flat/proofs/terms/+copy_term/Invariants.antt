-- The numbers get smaller.
use Rattle.std.proofs.Common.{◌+◌, ◌*◌}
use Rattle.arena_flat.proofs.terms.+copy_term.Given as goal

abbrev pub decreases-copy_term : goal.decreases-copy_term
decreases-copy_term l = 2 * l.term + 1

abbrev pub decreases-copy_new_term : goal.decreases-copy_new_term
decreases-copy_new_term l = 2 * l.term

abbrev pub decreases-copy_terms : goal.decreases-copy_terms
decreases-copy_terms l = 2 * l.terms + 1

abbrev pub decreases-copy_new_terms : goal.decreases-copy_new_terms
decreases-copy_new_terms l = 2 * l.terms
