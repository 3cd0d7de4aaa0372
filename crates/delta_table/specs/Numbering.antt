-- The numbers of the tuples of items.
use Rattle.std.specs.Prelude.{◌≡◌, ℕ, List, map}
use Rattle.std.specs.List.{All}
use Rattle.herbrand_laws.specs.Herbrand.{Item}
use Rattle.arena_cells.specs.Items.{Item as Thing}
use Rattle.arena_cells.specs.Standing.{IsTermAt}
use Rattle.numbered_terms.specs.Numbered.{tuples_at}

-- the lists have the numbers of the tuples of each item
pub record AreItemNumbers (a : List Thing) (nss : List (List ℕ)) (items : List Item) : Type 0 where
  pub terms : All (All (IsTermAt a)) nss
  pub tuples : map (tuples_at a) nss ≡ map (λ i. i.tuples) items
