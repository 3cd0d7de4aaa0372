-- An instance that is taken.
--     taken_as      as a step
--     StandsFor      one tree stands in for another in a sequent and among the leaves
use Rattle.std.specs.Prelude.{◌≡◌, List, [], ◌∷◌, None}
use Rattle.lk_rules.specs.declared.sequent.Side.{Side}
use Rattle.expansion_laws.specs.Expansions.{shallow}
use Rattle.arena_cells.specs.Items.{Item}
use Rattle.arena_cells.specs.Meaning.{rule_at}
use Rattle.building_laws.specs.Building.{Step}
use Rattle.arena_building.specs.Leaves.{leaf_on}
use Rattle.arena_building.specs.Numbered.{Numbered}
use Rattle.arena_building.specs.declared.instances.Instance.{Instance}

abbrev pub taken_as : List Item → Instance → Step
taken_as a i = record { rule = rule_at a i.rule; premises = (i.others.placed ∷ i.child.placed ∷ []) ∷ [] }

-- q has the formula of p on the same side, with the same number, and neither is a leaf
pub record StandsFor (p q : Numbered) : Type 0 where
  pub side : q.placed.side ≡ p.placed.side
  pub shown : shallow q.placed.tree ≡ shallow p.placed.tree
  pub formula : q.formula ≡ p.formula
  pub used : (s : Side) → leaf_on s p.placed ≡ None
  pub unused : (s : Side) → leaf_on s q.placed ≡ None
