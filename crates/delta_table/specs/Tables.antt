-- Delta tables by numbers.
use Rattle.std.specs.Prelude.{◌≡◌, ℕ, Bool, List}
use Rattle.std.specs.List.{All, list_any}
use Rattle.herbrand_laws.specs.Herbrand.{Item}
use Rattle.arena_cells.specs.Standing.{IsDistinct}
use Rattle.numbered_terms.specs.Numbered.{IsTermSet}
use Rattle.delta_table.specs.declared.tables.Table.{Table}
use Rattle.delta_table.specs.FoundRows.{tables_of, AreTables, all_numbers}

-- the table has the rows of the items, and the sets of values that these have
pub record IsTable (width : ℕ) (items : List Item) (t : Table) : Type 0 where
  pub distinct : IsDistinct t.cells
  pub rows : AreTables t.cells t.rows.items (tables_of width items)
  pub keys : (p : List ℕ → Bool) → list_any p t.keys ≡ list_any p (all_numbers t.rows.items)
  pub sets : All (IsTermSet t.cells) t.keys
