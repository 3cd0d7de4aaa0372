-- What stays of a list when a tree is taken out.
use Rattle.std.proofs.Common.{◌≡◌, ℕ, zero, suc, ◌+◌, ◌<◌, Bool, true, List, [], ◌∷◌, ◌++◌, length, Some, None, refl, sym, ap, subst, ◌∙◌, add-one, arith}
use Rattle.std.specs.Prelude.{is_some, option_map, option_to_list}
use Rattle.std.specs.List.{All, remove, slice_get, position}
use Rattle.std.proofs.lemmas.List.{length-map}
use Rattle.std.proofs.lemmas.List.Edits.{length-remove}
use Rattle.std.proofs.lemmas.Option.{slice_get-map, get_or_from_slice_get}
use Rattle.fol.specs.Syntax.{Formula}
use Rattle.finite.specs.Finite as set
use Rattle.lk_rules.specs.declared.sequent.Side.{Side}
use Rattle.lk_rules.specs.declared.sequent.Side.TheVariants.{Left, Right}
use Rattle.lk_rules.specs.Sequents.{adds_to}
use Rattle.expansion_laws.specs.Expansions.{Exp, wk, leaf, neg, conj, disj, impl, weak, strong, shallow}
use Rattle.arena_cells.specs.Items.{Item}
use Rattle.arena_cells.specs.Standing.{HasFormula}
use Rattle.building_laws.specs.Lists.{Placed, trees_on, leaf_formulas, leaf_sequent, conclusion}
use Rattle.building_laws.specs.Building.{closing_rule, parts_of, parts}
use Rattle.arena_building.specs.Instances.{StandsFor}
use Rattle.arena_building.specs.Leaves.{leaf_between, leaf_on, IsOpen}
use Rattle.arena_building.specs.Numbered.{Numbered, trees, IsNumbered}
use Rattle.arena_building.specs.Putting.{put}
use Rattle.arena_building.proofs.LeafNumbers.{leaf_first}
use Rattle.arena_building.proofs.Places.{first_mapped, position_is}
use Rattle.arena_building.proofs.Puts.{map_put, map_removed, put_back, put_behind}
use Rattle.arena_building.proofs.Sequents.{conclusion_put, conclusion_removed}

-- the tree at a place
pub tree_there : (l : List Numbered) (n : ℕ) (q : Numbered) → slice_get l n ≡ Some q → slice_get (trees l) n ≡ Some q.placed
tree_there l n q e = slice_get-map (λ (q : Numbered). q.placed) l n ∙ ap (λ o. option_map (λ (q : Numbered). q.placed) o) e

pub position_of_tree : (t : Placed → Bool) (l : List Numbered) → position t (trees l) ≡ position (λ q. t q.placed) l
position_of_tree t l = position_is t (trees l) ∙ (first_mapped t (λ (q : Numbered). q.placed) l ∙ sym (position_is (λ (q : Numbered). t q.placed) l))

pub numbered_at : (a : List Item) (l : List Numbered) (n : ℕ) (q : Numbered) → n < length l → All (IsNumbered a) l → slice_get l n ≡ Some q → IsNumbered a q
numbered_at a l n q within h e = subst (λ (p : Numbered). IsNumbered a p) (get_or_from_slice_get l n q q e) (h n q within)

-- a tree with a connective or a strong quantifier is no leaf
no_leaf : (s r : Side) (e : Exp) → is_some (parts_of r e) ≡ true → leaf_between s r e ≡ None
no_leaf s r (wk f) h = cc
no_leaf s r (leaf f) h = cc
no_leaf Left Left (neg e) h = refl
no_leaf Left Right (neg e) h = refl
no_leaf Right Left (neg e) h = refl
no_leaf Right Right (neg e) h = refl
no_leaf Left Left (conj d e) h = refl
no_leaf Left Right (conj d e) h = refl
no_leaf Right Left (conj d e) h = refl
no_leaf Right Right (conj d e) h = refl
no_leaf Left Left (disj d e) h = refl
no_leaf Left Right (disj d e) h = refl
no_leaf Right Left (disj d e) h = refl
no_leaf Right Right (disj d e) h = refl
no_leaf Left Left (impl d e) h = refl
no_leaf Left Right (impl d e) h = refl
no_leaf Right Left (impl d e) h = refl
no_leaf Right Right (impl d e) h = refl
no_leaf s r (weak f is) h = cc
no_leaf Left Left (strong f y e) h = refl
no_leaf Left Right (strong f y e) h = refl
no_leaf Right Left (strong f y e) h = refl
no_leaf Right Right (strong f y e) h = refl

pub compound_unused : (p : Placed) → is_some (parts p) ≡ true → (s : Side) → leaf_on s p ≡ None
compound_unused p h s = no_leaf s p.side p.tree h

-- a tree that is no leaf changes nothing among the leaves
leaves_with : (s : Side) (p : Placed) (l : List Placed) → leaf_on s p ≡ None → leaf_formulas (trees_on s (p ∷ l)) ≡ leaf_formulas (trees_on s l)
leaves_with s p l h = leaf_first s p l ∙ ap (λ o. option_to_list o ++ leaf_formulas (trees_on s l)) h

leaves_put : (s : Side) (l : List Placed) (n : ℕ) (p : Placed) → leaf_on s p ≡ None → leaf_formulas (trees_on s (put l n (p ∷ []))) ≡ leaf_formulas (trees_on s l)
leaves_put s [] zero p h = leaves_with s p [] h
leaves_put s [] (suc n) p h = leaves_with s p [] h
leaves_put s (q ∷ l) zero p h = leaves_with s p (q ∷ l) h
leaves_put s (q ∷ l) (suc n) p h =
    leaf_first s q (put l n (p ∷ []))
    ∙ (ap (λ (fs : List Formula). option_to_list (leaf_on s q) ++ fs) (leaves_put s l n p h) ∙ sym (leaf_first s q l))

open_put : (l : List Placed) (n : ℕ) (p : Placed) → ((s : Side) → leaf_on s p ≡ None) → closing_rule (leaf_sequent (put l n (p ∷ []))) ≡ closing_rule (leaf_sequent l)
open_put l n p h = λ i. closing_rule (record { left = set.of_list (leaves_put Left l n p (h Left) i); right = set.of_list (leaves_put Right l n p (h Right) i) })

open_removed : (l : List Placed) (n : ℕ) (p : Placed) → slice_get l n ≡ Some p → ((s : Side) → leaf_on s p ≡ None) → IsOpen l → IsOpen (remove l n)
open_removed l n p there unused h = sym (open_put (remove l n) n p unused) ∙ (ap (λ (ps : List Placed). closing_rule (leaf_sequent ps)) (put_back l n p there) ∙ h)

-- without a tree, or with one in its stead
module _ (l : List Numbered) (n : ℕ) (q : Numbered) (there : slice_get l n ≡ Some q) where
  pub open_without : ((s : Side) → leaf_on s q.placed ≡ None) → IsOpen (trees l) → IsOpen (trees (remove l n))
  open_without unused h = subst (λ (ps : List Placed). IsOpen ps) (sym (map_removed (λ (q : Numbered). q.placed) l n)) (open_removed (trees l) n q.placed (tree_there l n q there) unused h)

  pub conclusion_without : conclusion (trees l) ≡ adds_to (conclusion (trees (remove l n))) q.placed.side (shallow q.placed.tree)
  conclusion_without =
      conclusion_removed (trees l) n q.placed (tree_there l n q there)
      ∙ ap (λ (ps : List Placed). adds_to (conclusion ps) q.placed.side (shallow q.placed.tree)) (sym (map_removed (λ (q : Numbered). q.placed) l n))

  pub open_instead : (r : Numbered) → StandsFor q r → IsOpen (trees l) → IsOpen (trees (put (remove l n) n (r ∷ [])))
  open_instead r h k =
      subst (λ (ps : List Placed). IsOpen ps) (sym (map_put (λ (q : Numbered). q.placed) (remove l n) n (r ∷ [])))
      (open_put (trees (remove l n)) n r.placed h.unused ∙ open_without h.used k)

  pub conclusion_instead : (r : Numbered) → StandsFor q r → conclusion (trees l) ≡ conclusion (trees (put (remove l n) n (r ∷ [])))
  conclusion_instead r h =
      conclusion_without
      ∙ (λ i. adds_to (conclusion (trees (remove l n))) (sym h.side i) (sym h.shown i))
      ∙ sym (conclusion_put (trees (remove l n)) n (r.placed ∷ []))
      ∙ ap conclusion (sym (map_put (λ (q : Numbered). q.placed) (remove l n) n (r ∷ [])))

-- the number of a tree that stands for another
pub numbered_instead : (a : List Item) (q r : Numbered) → StandsFor q r → IsNumbered a q → IsNumbered a r
numbered_instead a q r h k = subst (λ (f : Formula). HasFormula a r.formula f) (sym h.shown) (subst (λ n. HasFormula a n (shallow q.placed.tree)) (sym h.formula) k)

-- one more tree behind the one that stands for another
pub behind_instead : (l : List Numbered) (n : ℕ) (r q : Numbered) → n < length l → put (remove (trees l) n) n (r.placed ∷ q.placed ∷ []) ≡ put (trees (put (remove l n) n (r ∷ []))) (n + 1) (q.placed ∷ [])
behind_instead l n r q within =
    let shorter : length (remove (trees l) n) + 1 ≡ length (trees l) = length-remove (trees l) n (omega (arith, length-map l (λ (q : Numbered). q.placed))) in
    let lengths : length (trees l) ≡ length l = length-map l (λ (q : Numbered). q.placed) in
    sym (put_behind (remove (trees l) n) n r.placed q.placed (omega arith))
    ∙ (λ i. put (put (sym (map_removed (λ (q : Numbered). q.placed) l n) i) n (r.placed ∷ [])) (sym (add-one n) i) (q.placed ∷ []))
    ∙ ap (λ (ps : List Placed). put ps (n + 1) (q.placed ∷ [])) (sym (map_put (λ (q : Numbered). q.placed) (remove l n) n (r ∷ [])))
