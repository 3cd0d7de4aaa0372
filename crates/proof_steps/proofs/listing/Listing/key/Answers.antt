-- The numbers at the places make the tree's key.
use Rattle.std.proofs.Common.{◌≡◌, ◌<◌, List, map, length, sym, subst}
use Rattle.std.specs.Prelude.{slice_index}
use Rattle.std.specs.List.{All}
use Rattle.proof_trees.specs.Trees.{below}
use Rattle.proof_graph.specs.declared.node.Node.{Node}
use Rattle.proof_steps.specs.declared.listing.Entry.{Entry}
use Rattle.proof_steps.specs.Listed.{Listed, ArePlaces, key_in}
use Rattle.proof_steps.specs.Kept.{numbers_in}
use Rattle.proof_steps.proofs.Listings.{places_inside, key_by}
use Rattle.proof_steps.proofs.listing.Listing.key.Goals as goal

pub key_at-requires : goal.key_at-requires
key_at-requires c =
    subst (λ (es : List Entry). All (λ i. i < length es) c.args.places.now) (sym c.deref.ensures.value)
    (places_inside _ _ _ _ c.self.invariant c.args.places.now (below c.args.proof.now.tree)
    (subst (λ (v : Listed). ArePlaces v.trees c.args.places.now (below c.args.proof.now.tree)) (sym c.self.view_is) c.requires.places))

pub returns : goal.returns
returns c =
    let t = c.args.proof.now.tree in
    let key : Node = record { rule = c.key.result.now.rule; end = c.key.result.now.end; premises = map (slice_index (numbers_in c.deref.result.now)) c.args.places.now } in
    let same : key ≡ key_in c.args.self.now.trees c.args.self.now.numbers t = subst (λ (v : Listed). key ≡ key_in v.trees v.numbers t) c.self.view_is
    (key_by _ _ _ _ c.self.invariant t c.args.places.now key (subst (λ (v : Listed). ArePlaces v.trees c.args.places.now (below t)) (sym c.self.view_is) c.requires.places)
    (λ i. record { rule = (c.key.ensures i).rule; end = (c.key.ensures i).end; premises = map (slice_index (numbers_in (c.deref.ensures.value i))) c.args.places.now })) in
    rw same at c.key_at.ensures
