-- Sequents as fields: the two sides as lists of formulas, in the job itself or in an object of their own.
use Rattle.std.specs.Prelude.{ℕ, List, codes, None, Ok}
use Rattle.lk_rules.specs.declared.sequent.Sequent.{Sequent}
use Rattle.serde_json.specs.Data.{Data}
use Rattle.serde_json.specs.Find.{get, as_object}
use Rattle.job_lang.specs.declared.places.Place.{Place}
use Rattle.job_lang.specs.declared.places.Place.TheVariants.{Top}
use Rattle.job_words.specs.declared.causes.JobCause.TheVariants.{Field}
use Rattle.job_lang.specs.Places.{path}
use Rattle.job_lang.specs.Fields.{Reading, ◌>>=◌, or_fault}
use Rattle.job_lang.specs.Formulas.{side_at}

-- the members that are the sides of a sequent
abbrev pub sequent_at : Place → Data → Reading Sequent
sequent_at place d = do
  left ← side_at place (codes "left") d
  right ← side_at place (codes "right") d
  Ok (record { left = left; right = right })

-- a sequent by itself, which has to be an object; its members stand at the place
abbrev pub part_of : Place → List ℕ → Data → Reading Sequent
part_of place key d = or_fault (Field (path Top key None)) (as_object d) >>= λ o. sequent_at place d

-- the member that is one
abbrev pub part_at : Place → List ℕ → Data → Reading Sequent
part_at place key d = or_fault (Field (path Top key None)) (get key d) >>= part_of place key
