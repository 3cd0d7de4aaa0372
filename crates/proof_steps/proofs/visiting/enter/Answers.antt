-- The tree is at the place of its key, or it is new.
use Rattle.std.proofs.Common.{◌≡◌, [], ◌∷◌, ◌++◌, refl, sym, ◌∙◌}
use Rattle.std.specs.Prelude.{slice_get}
use Rattle.proof_steps.proofs.Standing.{get_last, all_in_places}
use Rattle.proof_steps.proofs.Appending.{appended_new}
use Rattle.proof_steps.proofs.Visits.{found_known}
use Rattle.proof_steps.proofs.visiting.enter.Goals as goal

pub returns-in-Some-clause-place : goal.returns-in-Some-clause-place
returns-in-Some-clause-place c =
    c.in-Some.ensures.place c.args.proof.now.tree c.in_ok-key.ensures (all_in_places c.args.listing.now.trees c.args.places.items _ c.requires.places)

pub returns-in-Some-clause-trees : goal.returns-in-Some-clause-trees
returns-in-Some-clause-trees c =
    found_known c.args.listing.now.trees c.args.proof.now.tree c.in-Some.place
    (c.in-Some.ensures.place c.args.proof.now.tree c.in_ok-key.ensures (all_in_places c.args.listing.now.trees c.args.places.items _ c.requires.places))

pub returns-in_ok-push-in-None-clause-trees : goal.returns-in_ok-push-in-None-clause-trees
returns-in_ok-push-in-None-clause-trees c =
    let pushed : c.push.new.self.trees ≡ c.args.listing.now.trees ++ c.args.proof.now.tree ∷ [] = rw c.in_ok-keep-in-None.ensures at c.in_ok-push-in-None.ensures.ok in
    pushed ∙ sym (appended_new c.args.listing.now.trees c.args.proof.now.tree (c.in-None.ensures.absent refl c.args.proof.now.tree c.in_ok-key.ensures))

pub returns-in_ok-push-in-None-clause-place : goal.returns-in_ok-push-in-None-clause-place
returns-in_ok-push-in-None-clause-place c =
    let pushed : c.push.new.self.trees ≡ c.args.listing.now.trees ++ c.args.proof.now.tree ∷ [] = rw c.in_ok-keep-in-None.ensures at c.in_ok-push-in-None.ensures.ok in
    (λ i. slice_get (pushed i) (c.len-place.ensures i)) ∙ get_last c.args.listing.now.trees c.args.proof.now.tree
