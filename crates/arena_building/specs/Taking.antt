-- A step that is taken at a list.
--     put      elements at a place of a list
--     step_of      what is stored of a step, as a step
--     IsRest      what stays of a list
--     HasEnd      the sequent of a list by what stays of the list
use Rattle.std.specs.Prelude.{◌≡◌, ◌≤◌, List, length, map, IfSome}
use Rattle.std.specs.List.{All}
use Rattle.arena_cells.specs.Items.{Item}
use Rattle.arena_cells.specs.Standing.{IsFormulaAt}
use Rattle.arena_cells.specs.Meaning.{rule_at}
use Rattle.building_laws.specs.Lists.{Placed, conclusion}
use Rattle.building_laws.specs.Building.{Step}
use Rattle.arena_building.specs.Dividing.{parts_each}
use Rattle.arena_building.specs.Leaves.{IsOpen}
use Rattle.arena_building.specs.Numbered.{trees, IsNumbered}
use Rattle.arena_building.specs.Putting.{put}
use Rattle.arena_building.specs.Sides.{with_main}
use Rattle.arena_building.specs.declared.lists.Rest.{Rest}
use Rattle.arena_building.specs.declared.steps.Taken.{Taken}

-- the lists of the premises, where the new trees of each stand at the place
abbrev pub lists_over : Rest → List (List Placed) → List (List Placed)
lists_over r = map (put (trees r.list.items) r.place)

abbrev pub step_of : List Item → Taken → Step
step_of a t = record { rule = rule_at a t.rule; premises = lists_over t.rest (parts_each t.premises) }

-- the leaves of what stays of a list end no branch
pub record IsRest (a : List Item) (r : Rest) : Type 0 where
  pub numbers : All (IsNumbered a) r.list.items
  pub place : r.place ≤ length r.list.items
  pub open_leaves : IsOpen (trees r.list.items)

-- the sequent of the list is that of what stays, with the formula that was taken out
pub record HasEnd (a : List Item) (l : List Placed) (t : Taken) : Type 0 where
  pub main : IfSome t.main (λ m. IsFormulaAt a m.formula)
  pub end : conclusion l ≡ with_main a t.main (conclusion (trees t.rest.list.items))
