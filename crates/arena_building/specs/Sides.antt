-- The sides of a sequent by numbers.
--     sides_at, AreSidesAt, HasSides      the sequent whose sides stand at the numbers
--     with_main      a sequent with the formula of a tree that was taken out
--     added_to      a sequent with the formulas of more trees
--     is_on, number_on, numbers_on      trees on a side by the numbers of their formulas
use Rattle.std.specs.Prelude.{ℕ, Bool, false, nat_eq, List, [], ◌∷◌, ◌++◌, Option, Some, None}
use Rattle.lk_rules.specs.declared.sequent.Sequent.{Sequent}
use Rattle.lk_rules.specs.declared.sequent.Side.{Side}
use Rattle.lk_rules.specs.declared.sequent.Side.TheVariants.{Left, Right}
use Rattle.lk_rules.specs.Sequents.{adds_to}
use Rattle.expansion_laws.specs.Expansions.{shallow}
use Rattle.arena_cells.specs.Items.{Item}
use Rattle.arena_cells.specs.Standing.{HasSide, formula_at, side_at, IsSideAt}
use Rattle.building_laws.specs.Lists.{Placed}
use Rattle.arena_building.specs.Numbered.{Numbered}
use Rattle.arena_building.specs.declared.sides.Main.{Main}
use Rattle.arena_building.specs.declared.sides.Sides.{Sides}

abbrev pub sides_at : List Item → Sides → Sequent
sides_at a s = record { left = side_at a s.left; right = side_at a s.right }

pub record AreSidesAt (a : List Item) (s : Sides) : Type 0 where
  pub left : IsSideAt a s.left
  pub right : IsSideAt a s.right

pub record HasSides (a : List Item) (s : Sides) (e : Sequent) : Type 0 where
  pub left : HasSide a s.left e.left
  pub right : HasSide a s.right e.right

-- the sequent with the formula that was taken out, if one was
abbrev pub with_main : List Item → Option Main → Sequent → Sequent
with_main a None e = e
with_main a (Some m) e = adds_to e m.side (formula_at a m.formula)

-- the sequent with the formulas of the trees, each on its side
abbrev pub added_to : Sequent → List Placed → Sequent
added_to e [] = e
added_to e (p ∷ ps) = adds_to (added_to e ps) p.side (shallow p.tree)

-- whether the first side is the second and the test passes
abbrev pub both_on : Side → Side → Bool → Bool
both_on Left Left b = b
both_on Left Right b = false
both_on Right Left b = false
both_on Right Right b = b

-- whether the tree stands on the side and its formula has the number
abbrev pub is_on : Side → ℕ → Numbered → Bool
is_on side n q = both_on side q.placed.side (nat_eq q.formula n)

-- the number, where the first side is the second
abbrev pub number_between : Side → Side → ℕ → List ℕ
number_between Left Left n = n ∷ []
number_between Left Right n = []
number_between Right Left n = []
number_between Right Right n = n ∷ []

-- the number of the tree's formula, where the tree stands on the side
abbrev pub number_on : Side → Numbered → List ℕ
number_on side q = number_between side q.placed.side q.formula

abbrev pub numbers_on : Side → List Numbered → List ℕ
numbers_on side [] = []
numbers_on side (q ∷ l) = number_on side q ++ numbers_on side l
