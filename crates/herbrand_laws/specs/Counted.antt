-- How many tuples of quantified formulas items have.
use Rattle.std.specs.Prelude.{ℕ, ◌==◌, if◌then◌else◌, List, length}
use Rattle.std.specs.List.{sum_by}
use Rattle.herbrand_laws.specs.Herbrand.{Item, quantifiers}

-- how many tuples of quantified formulas there are
abbrev pub counted_tuples : Item → ℕ
counted_tuples i = if quantifiers i == 0 then 0 else length i.tuples

abbrev pub counted : List Item → ℕ
counted items = sum_by counted_tuples items
