-- What a definition is of, and which definitions are used, as fields.
--     whole_name, name_at      the name of a symbol, as one token with nothing before or behind it
--     variables_at      a list of variables of which no two are the same
--     using_at      the names of jobs whose definitions are used, none where there is no such field
use Rattle.std.specs.Prelude.{ℕ, suc, ◌==◌, if◌then◌else◌, List, [], ◌∷◌, ◌++◌, length, codes, Option, Some, None, Ok, Err, option_map}
use Rattle.fol.specs.declared.symbols.Var.{Var}
use Rattle.free_variables.specs.Fresh.{is_among}
use Rattle.tptp_tokens.specs.declared.tokens.Scan.{Scan}
use Rattle.tptp_tokens.specs.declared.tokens.Scan.TheVariants.{Found}
use Rattle.tptp_tokens.specs.declared.tokens.Token.TheVariants.{Name}
use Rattle.tptp_tokens.specs.Lexer.{scanned, whole_variable}
use Rattle.serde_json.specs.Data.{Data}
use Rattle.serde_json.specs.Find.{get, as_str, as_array}
use Rattle.job_lang.specs.declared.places.Place.TheVariants.{Top}
use Rattle.job_words.specs.declared.causes.JobCause.{JobCause}
use Rattle.job_words.specs.declared.causes.JobCause.TheVariants.{Field}
use Rattle.job_lang.specs.Places.{path}
use Rattle.job_lang.specs.Fields.{Reading, ◌>>=◌, or_fault, text_at, list_at, elements, each}

-- the name that a text of n bytes is as a whole, with s at its front
abbrev pub whole_name : Scan → ℕ → Option (List ℕ)
whole_name (Found (Name x) k) n = if k == n then Some x else None
whole_name s n = None

-- the member that is the name of a symbol
abbrev pub name_at : Data → Reading (List ℕ)
name_at d = text_at Top (codes "symbol") d >>= λ text. or_fault (Field (path Top (codes "symbol") None)) (whole_name (scanned text) (length text))

-- the fault of the element with the number i
abbrev pub wrong_variable : ℕ → JobCause
wrong_variable i = Field (path Top (codes "vars") (Some i))

-- the variable that an element is
abbrev pub whole_of : Option (List ℕ) → Option Var
whole_of None = None
whole_of (Some text) = whole_variable (scanned text) (length text)

-- the variables behind some others, of which the element with the number i is the next: each is none of those before it
abbrev pub variables_behind : List Var → ℕ → List Data → Reading (List Var)
variables_behind vs i [] = Ok vs
variables_behind vs i (d ∷ ds) =
    or_fault (wrong_variable i) (whole_of (as_str d)) >>= λ v. if is_among v vs then Err (wrong_variable i) else variables_behind (vs ++ v ∷ []) (suc i) ds

-- the member that is a list of variables
abbrev pub variables_at : Data → Reading (List Var)
variables_at d = list_at Top (codes "vars") d >>= variables_behind [] 0

-- the text that an element of the list of names is
abbrev pub used_name : ℕ → Data → Reading (List ℕ)
used_name i d = or_fault (Field (path Top (codes "using") (Some i))) (as_str d)

abbrev pub using_of : Option Data → Reading (List (List ℕ))
using_of None = Ok []
using_of (Some d) = or_fault (Field (path Top (codes "using") None)) (option_map elements (as_array d)) >>= each used_name 0

-- the member that is a list of names of jobs
abbrev pub using_at : Data → Reading (List (List ℕ))
using_at d = using_of (get (codes "using") d)
