-- The map gives the places of keys.
use Rattle.std.proofs.Common.{◌≡◌, sym, subst}
use Rattle.std.specs.Prelude.{Some, slice_get}
use Rattle.proof_trees.specs.Trees.{Tree, below}
use Rattle.proof_steps.specs.Listed.{Listed, IsIn, AllIn, key_in}
use Rattle.proof_steps.proofs.Listings.{found_tree, absent_tree}
use Rattle.proof_steps.proofs.listing.Listing.find.Goals as goal

pub returns-in-Some-clause-place : goal.returns-in-Some-clause-place
returns-in-Some-clause-place c =
    subst (λ (v : Listed). (t : Tree) → c.args.key.now ≡ key_in v.trees v.numbers t → AllIn v.trees (below t) → slice_get v.trees c.in-Some.place.now ≡ Some t) c.self.view_is
    (found_tree _ _ _ _ c.self.invariant c.args.key.now c.in-Some.place.now (sym c.in-Some.ensures.value))

pub returns-in-None-clause-absent : goal.returns-in-None-clause-absent
returns-in-None-clause-absent c none =
    subst (λ (v : Listed). (t : Tree) → c.args.key.now ≡ key_in v.trees v.numbers t → IsIn v.trees t → ⊥) c.self.view_is
    (absent_tree _ _ _ _ c.self.invariant c.args.key.now (sym c.in-None.ensures.value))
