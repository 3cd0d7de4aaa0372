-- A tree that is listed is so with its subtrees.
use Rattle.std.proofs.Common.{◌≡◌, sym, ap, ◌∙◌, subst, arith}
use Rattle.std.specs.Prelude.{Some, slice_get}
use Rattle.step_laws.specs.Subtrees.{subtrees, appended_each}
use Rattle.proof_steps.specs.Listed.{Listed}
use Rattle.proof_steps.proofs.Listings.{known_at, seen_within, seen_entry}
use Rattle.proof_steps.proofs.listing.Listing.seen_at.Goals as goal

pub index-requires : goal.index-requires
index-requires c =
    let inside = seen_within _ _ _ _ c.self.invariant c.number.result c.in-Some.place.now (sym c.in-Some.ensures.value) in
    omega (arith, inside, c.self.inside.entries.ok.0)

pub same-requires-clause-first : goal.same-requires-clause-first
same-requires-clause-first c =
    let entry = seen_entry _ _ _ _ c.self.invariant c.number.result c.in-Some.place.now c.index.result.now (sym c.in-Some.ensures.value) c.index.ensures in
    entry.0 ∙ ap (λ (v : Listed). v.home) c.self.view_is ∙ c.requires.home

pub returns-in-Some-clause-place : goal.returns-in-Some-clause-place
returns-in-Some-clause-place c =
    let entry = seen_entry _ _ _ _ c.self.invariant c.number.result c.in-Some.place.now c.index.result.now (sym c.in-Some.ensures.value) c.index.ensures in
    subst (λ (v : Listed). slice_get v.trees c.in-Some.place.now ≡ Some c.args.proof.now.tree) c.self.view_is (entry.1 ∙ ap Some (c.same.ensures.tree c.if-same.true))

pub returns-in-Some-clause-known : goal.returns-in-Some-clause-known
returns-in-Some-clause-known c =
    let entry = seen_entry _ _ _ _ c.self.invariant c.number.result c.in-Some.place.now c.index.result.now (sym c.in-Some.ensures.value) c.index.ensures in
    subst (λ (v : Listed). appended_each v.trees (subtrees c.args.proof.now.tree) ≡ v.trees) c.self.view_is
    (known_at _ _ _ _ c.self.invariant c.args.proof.now.tree c.in-Some.place.now (entry.1 ∙ ap Some (c.same.ensures.tree c.if-same.true)))
