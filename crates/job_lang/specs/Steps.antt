-- The steps of a proof as fields.
use Rattle.std.specs.Prelude.{ℕ, List, codes, Some, Ok}
use Rattle.lk_rules.specs.declared.rule.Step.{Step}
use Rattle.serde_json.specs.Data.{Data}
use Rattle.serde_json.specs.Find.{as_object}
use Rattle.job_lang.specs.declared.places.Place.{Place}
use Rattle.job_lang.specs.declared.places.Place.TheVariants as places
use Rattle.job_words.specs.declared.causes.JobCause.TheVariants.{Field}
use Rattle.job_lang.specs.Places.{path}
use Rattle.job_lang.specs.Fields.{Reading, ◌>>=◌, or_fault, list_at, each}
use Rattle.job_lang.specs.Numbers.{numbers_at}
use Rattle.job_lang.specs.Formulas.{side_at}
use Rattle.job_lang.specs.Rules.{rule_of}

-- a step's members: its rule, the numbers of its premises, and the two sides of its conclusion
abbrev pub step_of : Place → Data → Reading Step
step_of place d = do
  rule ← rule_of place d
  premises ← numbers_at place (codes "premises") d
  left ← side_at place (codes "left") d
  right ← side_at place (codes "right") d
  Ok (record { rule = rule; premises = premises; end = record { left = left; right = right } })

-- the step with the number i, which has to be an object
abbrev pub step_at : ℕ → Data → Reading Step
step_at i d = or_fault (Field (path places.Top (codes "steps") (Some i))) (as_object d) >>= λ o. step_of (places.Step i) d

abbrev pub steps_of : List Data → Reading (List Step)
steps_of ds = each step_at 0 ds

abbrev pub steps_at : Data → Reading (List Step)
steps_at d = list_at places.Top (codes "steps") d >>= steps_of
