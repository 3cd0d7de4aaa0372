-- Numbers of rounds as fields: how many rounds of resolution are made at most.
use Rattle.std.specs.Prelude.{ℕ, codes, Bool}
use Rattle.serde_json.specs.Data.{Data}
use Rattle.job_lang.specs.Fields.{Reading}
use Rattle.job_lang.specs.Numbers.{is_within, limited_at}

-- from 1 to 1,000 rounds are asked for
abbrev pub is_round_number : ℕ → Bool
is_round_number = is_within 1 1000

-- the member that is a number of rounds; a job without one has 10
abbrev pub rounds_at : Data → Reading ℕ
rounds_at = limited_at (codes "rounds") 1 1000 10
