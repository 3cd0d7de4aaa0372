-- Trees on sides, each with the number of its formula in an arena.
--     Numbered, numbered      a tree on a side with a number
--     trees      the trees of a list
--     IsNumbered      the tree's formula stands at the number
use Rattle.std.specs.Prelude.{ℕ, List, map}
use Rattle.std.specs.Coded.{Coded, coded_ℕ, coded×}
use base.Stored.{coded_via}
use Rattle.lk_rules.specs.declared.sequent.Side.{Side}
use Rattle.expansion_laws.specs.Expansions.{Exp, shallow}
use Rattle.arena_cells.specs.Items.{Item}
use Rattle.arena_cells.specs.Standing.{HasFormula}
use Rattle.building_laws.specs.Lists.{Placed, on}
use Rattle.arena_building.specs.Codes.{coded_placed}

pub record Numbered : Type 0 where
  pub placed : Placed
  pub formula : ℕ

abbrev pub numbered : Side → Exp → ℕ → Numbered
numbered s e n = record { placed = on s e; formula = n }

abbrev pub coded_numbered : Coded Numbered
coded_numbered = coded_via (coded× coded_placed coded_ℕ) (λ (q : Numbered). (q.placed, q.formula)) (λ x y e i. record { placed = (e i).0; formula = (e i).1 })

abbrev pub trees : List Numbered → List Placed
trees l = map (λ q. q.placed) l

-- the tree's formula stands at its number
abbrev pub IsNumbered : List Item → Numbered → Type 0
IsNumbered a q = HasFormula a q.formula (shallow q.placed.tree)
