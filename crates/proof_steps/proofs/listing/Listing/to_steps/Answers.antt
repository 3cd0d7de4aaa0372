-- The entries are steps of the trees.
use Rattle.std.proofs.Common.{◌≡◌, map, ap, ◌∙◌, subst}
use Rattle.step_laws.specs.Places.{step_in}
use Rattle.proof_steps.specs.Listed.{Listed}
use Rattle.proof_steps.specs.Kept.{entry_step}
use Rattle.proof_steps.proofs.listing.Listing.to_steps.Goals as goal

pub returns : goal.returns
returns c =
    let same : map entry_step c.deref.result.now ≡ map (step_in c.args.self.now.trees) c.args.self.now.trees =
    ap (map entry_step) c.deref.ensures.value
    ∙ subst (λ (v : Listed). map entry_step c.self.inside.entries.items ≡ map (step_in v.trees) v.trees) c.self.view_is c.self.invariant.steps in
    rw same at c.steps_of_entries.ensures
