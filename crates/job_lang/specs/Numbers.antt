-- Whole numbers as fields, from 0 to 2^64 - 1.
use Rattle.std.specs.Prelude.{ℕ, Bool, ◌&&◌, nat_le, if◌then◌else◌, List, [], ◌∷◌, Option, Some, None, Ok, Err, option_and_then}
use Rattle.serde_json.specs.Data.{Data}
use Rattle.serde_json.specs.Find.{get, as_number, as_u64}
use Rattle.job_lang.specs.declared.places.Place.{Place}
use Rattle.job_lang.specs.declared.places.Place.TheVariants.{Top}
use Rattle.job_words.specs.declared.causes.JobCause.TheVariants.{Field}
use Rattle.job_lang.specs.Places.{path}
use Rattle.job_lang.specs.Fields.{Reading, ◌>>=◌, or_fault, list_at, each}

-- a member that is a number
abbrev pub number_at : Place → List ℕ → Data → Reading ℕ
number_at place key d = or_fault (Field (path place key None)) (option_and_then as_u64 (option_and_then as_number (get key d)))

-- an element that is a number
abbrev pub number_of : Place → List ℕ → ℕ → Data → Reading ℕ
number_of place key i d = or_fault (Field (path place key (Some i))) (option_and_then as_u64 (as_number d))

-- a member that is a list of numbers
abbrev pub numbers_at : Place → List ℕ → Data → Reading (List ℕ)
numbers_at place key d = list_at place key d >>= each (number_of place key) 0

-- a list of exactly two numbers, and a member that is one
abbrev pub pair_of : Place → List ℕ → List Data → Reading (ℕ × ℕ)
pair_of place key (d ∷ e ∷ []) = number_of place key 0 d >>= λ m. number_of place key 1 e >>= λ n. Ok (m, n)
pair_of place key ds = Err (Field (path place key None))

abbrev pub pair_at : Place → List ℕ → Data → Reading (ℕ × ℕ)
pair_at place key d = list_at place key d >>= pair_of place key

-- whether a number is within limits
abbrev pub is_within : ℕ → ℕ → ℕ → Bool
is_within least most n = nat_le least n && nat_le n most

-- a number within limits, where there is one, and else the usual one
abbrev pub limited_of : List ℕ → ℕ → ℕ → ℕ → Option Data → Reading ℕ
limited_of key least most usual None = Ok usual
limited_of key least most usual (Some d) =
    or_fault (Field (path Top key None)) (option_and_then as_u64 (as_number d)) >>= λ n. if is_within least most n then Ok n else Err (Field (path Top key None))

-- a member of the job that is a number within limits, or the usual one where it has no such member
abbrev pub limited_at : List ℕ → ℕ → ℕ → ℕ → Data → Reading ℕ
limited_at key least most usual d = limited_of key least most usual (get key d)
