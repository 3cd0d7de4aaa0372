-- Room for one more tree changes nothing, and one more tree keeps the listing.
use Rattle.std.proofs.Common.{◌≡◌, nat_eq, refl, sym, ap, ◌∙◌, subst}
use Rattle.std.specs.HashMap as hash
use Rattle.std.specs.Map.{lookup}
use Rattle.proof_trees.specs.Trees.{below}
use Rattle.proof_graph.specs.Keys.{same_node}
use Rattle.proof_steps.specs.Listed.{Listed, IsIn, ArePlaces, key_in}
use Rattle.proof_steps.proofs.Listings.{listing_same, listing_more}
use Rattle.proof_steps.proofs.listing.Listing.push.Goals as goal

pub invariant_of-self-in_err-reserve-2 : goal.invariant_of-self-in_err-reserve-2
invariant_of-self-in_err-reserve-2 c = listing_same _ _ _ _ c.self.invariant _ _ _ c.reserve.ensures.items (λ k. refl) c.reserve-2.ensures.entries.2

pub invariant_of-self-in_err-insert : goal.invariant_of-self-in_err-insert
invariant_of-self-in_err-insert c =
    listing_same _ _ _ _ c.self.invariant _ _ _ c.reserve.ensures.items (λ k. ap (lookup (same_node k)) c.in_err-insert.ensures.err) c.reserve-2.ensures.entries.2

pub invariant_of-self-2 : goal.invariant_of-self-2
invariant_of-self-2 c =
    let ready = listing_same _ _ _ _ c.self.invariant c.self.inside.entries.items c.self.inside.keys c.reserve-2.new.self refl (λ k. refl) c.reserve-2.ensures.entries.2 in
    let more = listing_more _ _ _ _ ready c.insert.new.self c.insert-2.new.self (record { proof = c.args.proof; premises = c.from_vec-premises.result }) c.args.key c.len-place.result
    (c.requires.of ∙ sym c.requires.home ∙ sym (ap (λ (v : Listed). v.home) c.self.view_is))
    (subst (λ (v : Listed). c.args.key ≡ key_in v.trees v.numbers c.args.proof.tree) (sym c.self.view_is) c.requires.key)
    (subst (λ (v : Listed). ArePlaces v.trees c.from_vec-premises.result (below c.args.proof.tree)) (sym c.self.view_is) (rw (sym c.from_vec-premises.ensures) at c.requires.places))
    (subst (λ (v : Listed). IsIn v.trees c.args.proof.tree → ⊥) (sym c.self.view_is) c.requires.absent)
    (ap (hash.get nat_eq c.reserve-2.new.self) (sym c.number.ensures) ∙ sym c.in_ok-seen.ensures.old ∙ c.see_new.ensures)
    (c.len-place.ensures ∙ c.reserve.ensures.len ∙ c.self.inside.entries.ok.0)
    c.in_ok-insert.ensures.updates
    (rw c.number.ensures at c.in_ok-seen.ensures.updates) in
    rw (c.push_reserved.ensures.items, c.reserve.ensures.items) more
