-- The list of a premise, and the proofs of premises.
use Rattle.std.proofs.Common.{◌≡◌, ℕ, List, [], ◌∷◌, Option, Some, None, sym, ap, subst, ◌∙◌}
use Rattle.std.specs.List.{All}
use Rattle.proof_trees.specs.Trees.{Tree, none, more}
use Rattle.arena_cells.specs.Items.{Item}
use Rattle.arena_cells.specs.Standing.{Extends}
use Rattle.arena_cells.proofs.Staying.{tree_stays, tree_there}
use Rattle.building_laws.specs.Lists.{Placed}
use Rattle.building_laws.specs.Building.{build, with_first, build_each}
use Rattle.arena_building.specs.Building.{two_of, IsAnswered, IsProofOf, AreProofsOf}
use Rattle.arena_building.specs.Dividing.{items_of, IsAddedNumbered, ArePremisesNumbered}
use Rattle.arena_building.specs.Numbered.{Numbered, trees, IsNumbered}
use Rattle.arena_building.specs.Putting.{put}
use Rattle.arena_building.specs.Taking.{IsRest}
use Rattle.arena_building.specs.declared.dividing.Added.{Added}
use Rattle.arena_building.specs.declared.dividing.Added.TheVariants.{One, Two}
use Rattle.arena_building.specs.declared.dividing.Premises.{Premises}
use Rattle.arena_building.specs.declared.dividing.Premises.TheVariants as premises
use Rattle.arena_building.specs.declared.lists.Rest.{Rest}
use Rattle.arena_building.proofs.AddedLeaves.{added_numbered}
use Rattle.arena_building.proofs.Numbers.{numbered_stay}
use Rattle.arena_building.proofs.Puts.{map_put, all_put}

-- the list of a premise
module _ (r : Rest) (x : Added) (l : List Numbered) (same : l ≡ put r.list.items r.place (items_of x)) where
  pub premise_shown : trees l ≡ put (trees r.list.items) r.place (trees (items_of x))
  premise_shown = ap trees same ∙ map_put (λ (q : Numbered). q.placed) r.list.items r.place (items_of x)

  pub premise_numbered : (a b : List Item) → Extends a b → IsRest a r → IsAddedNumbered a x → All (IsNumbered b) l
  premise_numbered a b grown rest added =
      numbered_stay a b l grown (subst (λ (m : List Numbered). All (IsNumbered a) m) (sym same) (all_put (IsNumbered a) r.list.items r.place (items_of x) rest.numbers (added_numbered a x added)))

pub added_stays : (a b : List Item) (x : Added) → Extends a b → IsAddedNumbered a x → IsAddedNumbered b x
added_stays a b (One p) grown h = grown _ _ h
added_stays a b (Two p q) grown h = (grown _ _ h.0, grown _ _ h.1)

pub premises_stay : (a b : List Item) (p : Premises) → Extends a b → ArePremisesNumbered a p → ArePremisesNumbered b p
premises_stay a b (premises.One x) grown h = added_stays a b x grown h
premises_stay a b (premises.Two x y) grown h = (added_stays a b x grown h.0, added_stays a b y grown h.1)

pub rest_stays : (a b : List Item) (r : Rest) → Extends a b → IsRest a r → IsRest b r
rest_stays a b r grown h = record {
  numbers = numbered_stay a b r.list.items grown h.numbers;
  place = h.place;
  open_leaves = h.open_leaves;
}

-- the proofs of two premises
two_built : (l m : List Placed) (t u : Tree) → build l ≡ Some t → build m ≡ Some u → build_each build (l ∷ m ∷ []) ≡ Some (more t (more u none))
two_built l m t u e h = λ i. with_first (e i) (with_first (h i) (Some none))

pub two_answered : {A : Type 0} (a b : List Item) (l m : List Placed) (o : Option A) (p q : Option ℕ) → Extends a b → IsAnswered (λ _. IsProofOf a l) o p → IsAnswered (λ _. IsProofOf b m) o q → IsAnswered (λ _. AreProofsOf b (l ∷ m ∷ [])) o (two_of p q)
two_answered a b l m None None None grown h k = tt
two_answered a b l m None None (Some y) grown h k = absurd k
two_answered a b l m None (Some x) q grown h k = absurd h
two_answered a b l m (Some s) None q grown h k = absurd h
two_answered a b l m (Some s) (Some x) None grown h k = absurd k
two_answered a b l m (Some s) (Some x) (Some y) grown h k = record {
  built = two_built l m _ _ (h.built ∙ ap Some (sym (tree_stays a b grown x h.there))) k.built;
  there = (tree_there a b grown x h.there, k.there);
}
