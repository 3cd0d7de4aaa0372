-- Names of jobs.
use Rattle.std.specs.Prelude.{ℕ, Bool, ◌==◌, ◌&&◌, ◌||◌, nat_lt, nat_le, List, length}
use Rattle.std.specs.List.{list_all}
use Rattle.std.specs.Char.{is_ascii_alphanumeric}

-- a letter, a digit, `_` or `-`
abbrev pub is_name_byte : ℕ → Bool
is_name_byte b = is_ascii_alphanumeric b || b == 95 || b == 45

-- a job's name: 1 to 64 such bytes
abbrev pub is_job_name : List ℕ → Bool
is_job_name text = nat_lt 0 (length text) && nat_le (length text) 64 && list_all is_name_byte text
