-- There is no first cut exactly where there is no cut.
use Rattle.step_laws.proofs.CutPlaces.{no_first_cut}
use Rattle.proof_steps.proofs.step_list.first_cut.Goals as goal

pub returns-clause-none : goal.returns-clause-none
returns-clause-none c = no_first_cut c.args.proof.now.tree c.first_cut.result (rw c.in_ok-listing.ensures.trees at c.first_cut.ensures)
