-- The leaves among trees on sides.
--     leaf_on, is_leaf_on      the formula of a leaf on a side
--     is_truth_leaf, is_falsity_leaf      leaves that end a branch by themselves
--     leaf_number, leaf_numbers, is_leaf_at      the numbers of leaves on a side
--     is_common      whether a number is that of leaves on both sides
--     met, met_by      the numbers that new leaves have in common with others
--     lesser_of, IsLeastAt      the number of the lesser of two formulas, and of the least of some
--     IsOpen      no rule without premises ends the branch
use Rattle.std.specs.Prelude.{◌≡◌, ℕ, Bool, true, ◌&&◌, List, [], ◌∷◌, ◌++◌, filter, Option, Some, None, option_map, option_to_list}
use Rattle.std.specs.List.{All, list_any}
use Rattle.std.specs.Ordering.{nat_cmp, eq_by_cmp}
use Rattle.std.specs.declared.cmp.Ordering.{Ordering}
use Rattle.std.specs.declared.cmp.Ordering.TheVariants.{Less, Equal, Greater}
use Rattle.fol.specs.Syntax.{Formula, top, bot}
use Rattle.fol.specs.Order.{formula_cmp}
use Rattle.lk_rules.specs.declared.sequent.Side.{Side}
use Rattle.lk_rules.specs.declared.sequent.Side.TheVariants.{Left, Right}
use Rattle.expansion_laws.specs.Expansions.{Exp, leaf, turn}
use Rattle.arena_cells.specs.Items.{Item}
use Rattle.arena_cells.specs.Standing.{formula_at}
use Rattle.building_laws.specs.Lists.{Placed, leaf_sequent}
use Rattle.building_laws.specs.Building.{closing_rule}
use Rattle.arena_building.specs.Numbered.{Numbered}
use Rattle.arena_building.specs.declared.dividing.Added.{Added}
use Rattle.arena_building.specs.declared.dividing.Added.TheVariants.{One, Two}

-- the formula of a leaf
abbrev pub leaf_formula : Exp → Option Formula
leaf_formula (leaf f) = Some f
leaf_formula e = None

-- the same, where one side is the other
abbrev pub leaf_between : Side → Side → Exp → Option Formula
leaf_between Left Left e = leaf_formula e
leaf_between Left Right e = None
leaf_between Right Left e = None
leaf_between Right Right e = leaf_formula e

-- the formula of the tree, where that is a leaf on the side
abbrev pub leaf_on : Side → Placed → Option Formula
leaf_on side p = leaf_between side p.side p.tree

-- whether the formula is that of a leaf on the side
abbrev pub is_leaf_on : Side → List Placed → Formula → Bool
is_leaf_on side l f = list_any (λ p. list_any (eq_by_cmp formula_cmp f) (option_to_list (leaf_on side p))) l

-- whether the tree is a leaf of truth on the right, or of falsity on the left
abbrev pub is_truth_leaf : Numbered → Bool
is_truth_leaf q = list_any (eq_by_cmp formula_cmp top) (option_to_list (leaf_on Right q.placed))

abbrev pub is_falsity_leaf : Numbered → Bool
is_falsity_leaf q = list_any (eq_by_cmp formula_cmp bot) (option_to_list (leaf_on Left q.placed))

-- the number of the tree's formula, where the tree is a leaf on the side
abbrev pub leaf_number : Side → Numbered → Option ℕ
leaf_number side q = option_map (λ f. q.formula) (leaf_on side q.placed)

abbrev pub leaf_numbers : Side → List Numbered → List ℕ
leaf_numbers side [] = []
leaf_numbers side (q ∷ l) = option_to_list (leaf_number side q) ++ leaf_numbers side l

abbrev pub is_number_in : List ℕ → ℕ → Bool
is_number_in ns n = list_any (eq_by_cmp nat_cmp n) ns

-- whether the tree is a leaf on the side and has the number
abbrev pub is_leaf_at : Side → ℕ → Numbered → Bool
is_leaf_at side n q = is_number_in (option_to_list (leaf_number side q)) n

-- whether the number is that of a leaf on each side
abbrev pub is_common : List Numbered → ℕ → Bool
is_common l n = is_number_in (leaf_numbers Left l) n && is_number_in (leaf_numbers Right l) n

-- the number of the lesser of two formulas, or of the one that there is
abbrev pub lesser_by : Ordering → ℕ → ℕ → ℕ
lesser_by Less m n = m
lesser_by Equal m n = m
lesser_by Greater m n = n

abbrev pub lesser_of : List Item → Option ℕ → ℕ → ℕ
lesser_of a None n = n
lesser_of a (Some m) n = lesser_by (formula_cmp (formula_at a m) (formula_at a n)) m n

-- the number is that of a formula of the list, and no formula of the list is below that. Where there is none, the list has none
abbrev pub IsLeastAt : List Item → List ℕ → Option ℕ → Type 0
IsLeastAt a ns None = ns ≡ []
IsLeastAt a ns (Some n) = (is_number_in ns n ≡ true) × All (λ m. formula_cmp (formula_at a m) (formula_at a n) ≡ Less → ⊥) ns

-- no rule without premises ends the branch
abbrev pub IsOpen : List Placed → Type 0
IsOpen l = closing_rule (leaf_sequent l) ≡ None

-- the number of a tree that is a leaf, where a leaf of the list on the other side has it too
abbrev pub met : Numbered → List Numbered → List ℕ
met q l = filter (is_number_in (leaf_numbers (turn q.placed.side) l)) (option_to_list (leaf_number q.placed.side q))

-- the numbers of leaves that trees have in common with those of a list, and with one another
abbrev pub met_by : Added → List Numbered → List ℕ
met_by (One p) l = met p l
met_by (Two p q) l = met p l ++ (met q l ++ met p (q ∷ []))
