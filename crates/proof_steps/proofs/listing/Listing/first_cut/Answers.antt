-- The entries are steps of the trees.
use Rattle.std.proofs.Common.{◌≡◌, map, subst}
use Rattle.std.specs.List.{position}
use Rattle.step_laws.specs.Places.{step_in, is_cut_step}
use Rattle.proof_steps.specs.Listed.{Listed}
use Rattle.proof_steps.specs.Kept.{trees_in}
use Rattle.proof_steps.proofs.StepLists.{first_cut_place}
use Rattle.proof_steps.proofs.listing.Listing.first_cut.Goals as goal

pub returns : goal.returns
returns c =
    subst (λ (v : Listed). c.first_cut_entry.result ≡ position is_cut_step (map (step_in v.trees) v.trees)) c.self.view_is
    (first_cut_place (trees_in c.self.inside.entries.items) c.self.inside.entries.items c.first_cut_entry.result c.self.invariant.steps (rw c.deref.ensures.value at c.first_cut_entry.ensures))
