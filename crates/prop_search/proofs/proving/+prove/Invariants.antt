-- The proofs get smaller.
use Rattle.std.proofs.Common.{◌+◌, ◌*◌}
use Rattle.search_laws.specs.Search.{visits, walk_each, walk}
use Rattle.prop_search.specs.Deciding.{visits_each}
use Rattle.prop_search.specs.Formulas.{sequent_of}
use Rattle.prop_search.specs.Premises.{premises_of}
use Rattle.prop_search.proofs.proving.+prove.Given as goal

abbrev pub decreases-prove_at : goal.decreases-prove_at
decreases-prove_at g l = 3 * visits (walk (sequent_of l.numbering.now l.sequent)) + 2

abbrev pub decreases-prove_new : goal.decreases-prove_new
decreases-prove_new g l = 3 * visits (walk (sequent_of l.numbering.now l.sequent.now)) + 1

abbrev pub decreases-prove_premises : goal.decreases-prove_premises
decreases-prove_premises g l = 3 * visits_each (walk_each walk (premises_of l.numbering.now (sequent_of l.numbering.now l.sequent.now) l.main l.parts)) + 3
