-- A premise that is begun: its leaves end the branch, or its list has to be taken apart.
--     IsBegun      what is known of it: where sides are there, its proof or its sequent is; its inference is counted where it ends the branch
use Rattle.std.specs.Prelude.{◌≡◌, ◌+◌, ℕ, List, Option}
use Rattle.arena_cells.specs.Items.{Item}
use Rattle.arena_cells.specs.Standing.{HasSequent}
use Rattle.building_laws.specs.Lists.{Placed, conclusion}
use Rattle.building_laws.specs.Building.{visits}
use Rattle.arena_building.specs.Building.{IsAnswered, IsProofOf}
use Rattle.arena_building.specs.Leaves.{IsOpen}
use Rattle.arena_building.specs.declared.building.Begun.{Begun}
use Rattle.arena_building.specs.declared.building.Begun.TheVariants.{Closed, Open}
use Rattle.arena_building.specs.declared.sides.Sides.{Sides}

abbrev pub IsBegun : List Item → Option Sides → ℕ → ℕ → List Placed → Begun → Type 0
IsBegun a sides m n l (Closed proof) = IsAnswered (λ s. IsProofOf a l) sides proof × (m ≡ n + visits l)
IsBegun a sides m n l (Open end) = IsAnswered (λ s k. HasSequent a k (conclusion l)) sides end × (IsOpen l × (n ≡ m))
