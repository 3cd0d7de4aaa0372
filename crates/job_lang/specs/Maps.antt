-- Maps from variables to terms as fields: objects whose keys are variables and whose values are the texts of terms. The members are
-- read in rising order of their keys.
use Rattle.std.specs.Prelude.{ℕ, List, ◌++◌, length, codes, None, Ok, option_and_then}
use Rattle.std.specs.FinMap as fin
use Rattle.fol.specs.declared.symbols.Var.{Var}
use Rattle.fol.specs.Syntax.{Term}
use Rattle.substitution.specs.Maps.{Map}
use Rattle.tptp_tokens.specs.Lexer.{scanned, whole_variable}
use Rattle.tptp_read.specs.Texts.{term_reading}
use Rattle.serde_json.specs.Data.{Data, Members, no_members, member}
use Rattle.serde_json.specs.Find.{get, as_str, as_object}
use Rattle.job_lang.specs.declared.places.Place.{Place}
use Rattle.job_words.specs.declared.causes.JobCause.TheVariants.{Field}
use Rattle.job_lang.specs.Places.{path}
use Rattle.job_lang.specs.Fields.{Reading, ◌>>=◌, or_fault}
use Rattle.job_lang.specs.Formulas.{in_field}

-- the path of a member of an object, by its name
abbrev pub member_path : Place → List ℕ → List ℕ → List ℕ
member_path place key name = path place key None ++ codes "/" ++ name

-- a variable as the name of a member, one token with nothing before or behind it, and its term
abbrev pub binding_of : Place → List ℕ → Data → Reading (Var × Term)
binding_of place name d = do
  v ← or_fault (Field (path place (codes "map") None)) (whole_variable (scanned name) (length name))
  text ← or_fault (Field (member_path place (codes "map") name)) (as_str d)
  t ← in_field (member_path place (codes "map") name) (term_reading text)
  Ok (v, t)

-- a map with the bindings of some members
abbrev pub map_of : Place → Members → Map → Reading Map
map_of place no_members m = Ok m
map_of place (member name d ms) m = binding_of place name d >>= λ b. map_of place ms (fin.insert m b.0 b.1)

-- the member that is a map
abbrev pub map_at : Place → Data → Reading Map
map_at place d = or_fault (Field (path place (codes "map") None)) (option_and_then as_object (get (codes "map") d)) >>= λ ms. map_of place ms fin.empty
