-- Budgets as fields: how much an operation may do.
use Rattle.std.specs.Prelude.{ℕ, codes, Bool}
use Rattle.serde_json.specs.Data.{Data}
use Rattle.job_lang.specs.Fields.{Reading}
use Rattle.job_lang.specs.Numbers.{is_within, limited_at}

-- a budget is from 1 to 1000000000
abbrev pub is_budget : ℕ → Bool
is_budget = is_within 1 1000000000

-- the member that is a budget; a job without one has 100000
abbrev pub budget_at : Data → Reading ℕ
budget_at = limited_at (codes "budget") 1 1000000000 100000
