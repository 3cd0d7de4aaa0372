-- The rule by which the leaves of trees that are added to a list end a branch.
use Rattle.std.proofs.Common.{◌≡◌, ℕ, Bool, true, false, ◌||◌, List, [], ◌∷◌, Option, refl, sym, ap, ◌∙◌, rules}
use Rattle.std.specs.Prelude.{option_map}
use Rattle.std.specs.List.{All, list_any}
use Rattle.std.proofs.lemmas.List.Elements.{All-cons}
use Rattle.arena_cells.specs.Items.{Item}
use Rattle.arena_cells.specs.Standing.{IsDistinct, formula_at, IsFormulaAt}
use Rattle.building_laws.specs.Lists.{Placed, leaf_sequent}
use Rattle.building_laws.specs.Building.{axiom_or, closing_rule}
use Rattle.arena_building.specs.Dividing.{items_of, IsAddedNumbered}
use Rattle.arena_building.specs.Leaves.{is_number_in, is_common, is_truth_leaf, is_falsity_leaf, met_by, IsLeastAt, IsOpen}
use Rattle.arena_building.specs.Numbered.{Numbered, trees, IsNumbered}
use Rattle.arena_building.specs.Putting.{put}
use Rattle.arena_building.specs.declared.dividing.Added.{Added}
use Rattle.arena_building.specs.declared.dividing.Added.TheVariants.{One, Two}
use Rattle.arena_building.proofs.Closing.{common_there, found, nothing_common, no_truth, no_falsity, closing_of}
use Rattle.arena_building.proofs.CommonNumbers.{common_put}
use Rattle.arena_building.proofs.Puts.{map_put, any_put, all_put}

pub added_numbered : (a : List Item) (x : Added) → IsAddedNumbered a x → All (IsNumbered a) (items_of x)
added_numbered a (One p) h = All-cons (IsNumbered a) p [] h (search rules)
added_numbered a (Two p q) h = All-cons (IsNumbered a) p (q ∷ []) h.0 (All-cons (IsNumbered a) q [] h.1 (search rules))

or_nothing : (a b : Bool) → b ≡ false → (a || b) ≡ a
or_nothing true b e = refl
or_nothing false b e = e

module _ (a : List Item) (l : List Numbered) (x : Added) (distinct : IsDistinct a) (numbers : All (IsNumbered a) l) (added : IsAddedNumbered a x) (open_leaves : IsOpen (trees l)) where
  all_numbered : (n : ℕ) → All (IsNumbered a) (put l n (items_of x))
  all_numbered n = all_put (IsNumbered a) l n (items_of x) numbers (added_numbered a x added)

  same_common : (n m : ℕ) → is_number_in (met_by x l) m ≡ is_common (put l n (items_of x)) m
  same_common n m = common_put x l n m (nothing_common a l distinct numbers open_leaves)

  pub met_there : All (IsFormulaAt a) (met_by x l)
  met_there = common_there a (put l 0 (items_of x)) distinct (all_numbered 0) (met_by x l) (same_common 0)

  pub closing_with : (n : ℕ) (least : Option ℕ) (truth falsity : Bool) → IsLeastAt a (met_by x l) least → list_any is_truth_leaf (items_of x) ≡ truth → list_any is_falsity_leaf (items_of x) ≡ falsity
      → closing_rule (leaf_sequent (put (trees l) n (trees (items_of x)))) ≡ axiom_or (option_map (formula_at a) least) truth falsity
  closing_with n least truth falsity h t f =
      ap (λ (ps : List Placed). closing_rule (leaf_sequent ps)) (sym (map_put (λ (q : Numbered). q.placed) l n (items_of x)))
      ∙ closing_of (put l n (items_of x)) (option_map (formula_at a) least) truth falsity
      (found a (put l n (items_of x)) distinct (all_numbered n) (met_by x l) least (same_common n) h)
      (any_put is_truth_leaf l n (items_of x) ∙ (or_nothing (list_any is_truth_leaf (items_of x)) (list_any is_truth_leaf l) (no_truth l open_leaves) ∙ t))
      (any_put is_falsity_leaf l n (items_of x) ∙ (or_nothing (list_any is_falsity_leaf (items_of x)) (list_any is_falsity_leaf l) (no_falsity l open_leaves) ∙ f))
