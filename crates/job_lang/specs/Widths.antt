-- Widths as fields: how many tuples at most have a row of a delta table.
use Rattle.std.specs.Prelude.{ℕ, codes, Bool}
use Rattle.serde_json.specs.Data.{Data}
use Rattle.job_lang.specs.Fields.{Reading}
use Rattle.job_lang.specs.Numbers.{is_within, limited_at}

-- a width is from 2 to 4
abbrev pub is_width : ℕ → Bool
is_width = is_within 2 4

-- the member that is a width; a job without one has 4
abbrev pub width_at : Data → Reading ℕ
width_at = limited_at (codes "width") 2 4 4
