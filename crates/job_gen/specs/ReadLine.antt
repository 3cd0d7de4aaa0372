-- The value that a generated line is.
use Rattle.std.specs.Prelude.{◌≡◌, ℕ, List, [], ◌∷◌, ◌++◌, true, Some}
use Rattle.std.specs.Str.{is_utf8}
use Rattle.serde_json.specs.Read.{read}
use Rattle.job_gen.specs.Generated.{job_data, generated_line}

-- what stands before the newline of line i is UTF-8, and is read as job i
abbrev pub IsRead : ℕ → Type 0
IsRead i = (text : List ℕ) → generated_line i ≡ text ++ 10 ∷ [] → (is_utf8 text ≡ true) × (read text ≡ Some (job_data i))
