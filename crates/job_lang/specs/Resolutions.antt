-- The steps of a refutation as fields.
use Rattle.std.specs.Prelude.{ℕ, List, codes, Some, Ok, Err, is_some, if◌then◌else◌}
use Rattle.refutations.specs.declared.step.ResStep.{ResStep}
use Rattle.refutations.specs.declared.step.ResStep.TheVariants.{Input, Subst, Resolve}
use Rattle.serde_json.specs.Data.{Data}
use Rattle.serde_json.specs.Find.{get, as_object}
use Rattle.job_lang.specs.declared.places.Place.{Place}
use Rattle.job_lang.specs.declared.places.Place.TheVariants.{Top, Step}
use Rattle.job_words.specs.declared.causes.JobCause.{JobCause}
use Rattle.job_words.specs.declared.causes.JobCause.TheVariants.{Field}
use Rattle.job_lang.specs.Places.{path}
use Rattle.job_lang.specs.Fields.{Reading, ◌>>=◌, or_fault, list_at, each}
use Rattle.job_lang.specs.Numbers.{number_at, pair_at}
use Rattle.job_lang.specs.Formulas.{formula_at}
use Rattle.job_lang.specs.Maps.{map_at}

-- a clause, by its number
abbrev pub input_step : Place → Data → Reading ResStep
input_step place d = number_at place (codes "input") d >>= λ i. Ok (Input i)

-- the number of an earlier step, and a map from variables to terms
abbrev pub subst_step : Place → Data → Reading ResStep
subst_step place d = do
  k ← number_at place (codes "subst") d
  m ← map_at place d
  Ok (Subst k m)

-- the numbers of two earlier steps, that with the atom among its positive literals first, and the atom
abbrev pub resolve_step : Place → Data → Reading ResStep
resolve_step place d = do
  premises ← pair_at place (codes "resolve") d
  a ← formula_at place (codes "atom") d
  Ok (Resolve premises.0 premises.1 a)

abbrev pub wrong_step : ℕ → JobCause
wrong_step i = Field (path Top (codes "steps") (Some i))

-- the step with the number i: the first of its keys that is present counts
abbrev pub res_step_of : ℕ → Data → Reading ResStep
res_step_of i d =
    if is_some (get (codes "input") d) then input_step (Step i) d
    else (if is_some (get (codes "subst") d) then subst_step (Step i) d
    else (if is_some (get (codes "resolve") d) then resolve_step (Step i) d
    else Err (wrong_step i)))

-- a step has to be an object
abbrev pub res_step_at : ℕ → Data → Reading ResStep
res_step_at i d = or_fault (wrong_step i) (as_object d) >>= λ o. res_step_of i d

abbrev pub res_steps_of : List Data → Reading (List ResStep)
res_steps_of ds = each res_step_at 0 ds

-- the member that is a list of steps
abbrev pub res_steps_at : Data → Reading (List ResStep)
res_steps_at d = list_at Top (codes "steps") d >>= res_steps_of
