-- What is made of lists.
--     sizes      how many inferences some proofs have
--     visits_each      how many those of some lists have
--     one_of, two_of      the premises of an inference, where they were made
--     IsAnswered      something is there exactly where something else is, and they belong together
--     IsProofOf, AreProofsOf      the proofs of a list, and of some lists, stand at these numbers
use Rattle.std.specs.Prelude.{◌≡◌, ◌+◌, ℕ, true, List, [], ◌∷◌, Option, Some, None}
use Rattle.proof_trees.specs.Trees.{Trees, count_rules_all}
use Rattle.arena_cells.specs.Items.{Item}
use Rattle.arena_cells.specs.Standing.{tree_at, IsTreeAt}
use Rattle.arena_cells.specs.Meaning.{trees_at, HasPremises}
use Rattle.arena_cells.specs.declared.key.Parts.{Parts}
use Rattle.arena_cells.specs.declared.key.Parts.TheVariants.{One, Two}
use Rattle.building_laws.specs.Lists.{Placed}
use Rattle.building_laws.specs.Building.{build_each, build, visits}

abbrev pub sizes : Trees → ℕ
sizes = count_rules_all (λ r. true)

abbrev pub visits_each : List (List Placed) → ℕ
visits_each [] = 0
visits_each (l ∷ ls) = visits l + visits_each ls

abbrev pub one_of : Option ℕ → Option Parts
one_of (Some m) = Some (One m)
one_of None = None

abbrev pub two_of : Option ℕ → Option ℕ → Option Parts
two_of (Some m) (Some n) = Some (Two m n)
two_of (Some m) None = None
two_of None o = None

-- y is there exactly where x is, and belongs to it
abbrev pub IsAnswered : {A B : Type 0} → (A → B → Type 0) → Option A → Option B → Type 0
IsAnswered P None None = Unit {0}
IsAnswered P None (Some y) = ⊥
IsAnswered P (Some x) None = ⊥
IsAnswered P (Some x) (Some y) = P x y

pub record IsProofOf (a : List Item) (l : List Placed) (n : ℕ) : Type 0 where
  pub built : build l ≡ Some (tree_at a n)
  pub there : IsTreeAt a n

pub record AreProofsOf (a : List Item) (ls : List (List Placed)) (ps : Parts) : Type 0 where
  pub built : build_each build ls ≡ Some (trees_at a ps)
  pub there : HasPremises a ps
