-- What takes the place of one tree.
--     divided      as a step
--     chosen_step      by the instance at a place
--     ArePremisesNumbered      the formulas of the new trees stand at their numbers
use Rattle.std.specs.Prelude.{ℕ, List, [], ◌∷◌, Option, None, option_map}
use Rattle.lk_rules.specs.declared.sequent.Side.{Side}
use Rattle.expansion_laws.specs.Expansions.{Exp, weak}
use Rattle.arena_cells.specs.Items.{Item}
use Rattle.arena_cells.specs.Meaning.{rule_at}
use Rattle.building_laws.specs.Lists.{Placed}
use Rattle.building_laws.specs.Building.{Step, instantiated}
use Rattle.arena_building.specs.Numbered.{Numbered, trees, IsNumbered}
use Rattle.arena_building.specs.declared.dividing.Added.{Added}
use Rattle.arena_building.specs.declared.dividing.Added.TheVariants as added
use Rattle.arena_building.specs.declared.dividing.Premises.{Premises}
use Rattle.arena_building.specs.declared.dividing.Premises.TheVariants.{One, Two}
use Rattle.arena_building.specs.declared.dividing.Divided.{Divided}
use Rattle.arena_building.specs.Choosing.{chosen}

-- the trees that are added
abbrev pub items_of : Added → List Numbered
items_of (added.One p) = p ∷ []
items_of (added.Two p q) = p ∷ q ∷ []

-- the new trees of each premise
abbrev pub parts_each : Premises → List (List Placed)
parts_each (One a) = trees (items_of a) ∷ []
parts_each (Two a b) = trees (items_of a) ∷ trees (items_of b) ∷ []

-- the rule stands for what its numbers say
abbrev pub divided : List Item → Divided → Step
divided a d = record { rule = rule_at a d.rule; premises = parts_each d.premises }

-- the step by the instance at a place
abbrev pub chosen_of : Side → Exp → ℕ → Option Step
chosen_of s (weak f is) n = option_map (instantiated s f) (chosen is n)
chosen_of s e n = None

abbrev pub chosen_step : Placed → ℕ → Option Step
chosen_step p n = chosen_of p.side p.tree n

abbrev pub IsAddedNumbered : List Item → Added → Type 0
IsAddedNumbered a (added.One p) = IsNumbered a p
IsAddedNumbered a (added.Two p q) = IsNumbered a p × IsNumbered a q

abbrev pub ArePremisesNumbered : List Item → Premises → Type 0
ArePremisesNumbered a (One x) = IsAddedNumbered a x
ArePremisesNumbered a (Two x y) = IsAddedNumbered a x × IsAddedNumbered a y
