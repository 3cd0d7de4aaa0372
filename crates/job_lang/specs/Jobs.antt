-- Which job a line is, and which fault of a line is the first.
use Rattle.std.specs.Prelude.{◌≡◌, ℕ, List, [], ◌∷◌, ◌++◌, codes, Option, Some, None, Ok, Err, Result, if◌then◌else◌}
use Rattle.std.specs.Str.{is_utf8}
use Rattle.serde_json.specs.Data.{Data}
use Rattle.serde_json.specs.Read.{read}
use Rattle.job_lang.specs.declared.places.Place.TheVariants.{Top, First, Second}
use Rattle.job_words.specs.declared.causes.JobCause.TheVariants.{Json, Field, Op as UnknownOp}
use Rattle.job_lang.specs.declared.reading.ReadError.{ReadError}
use Rattle.job_lang.specs.declared.reading.ReadError.TheVariants.{Fault as ReadFault, Memory as ReadMemory}
use Rattle.job_lang.specs.declared.jobs.Op.{Op}
use Rattle.job_lang.specs.declared.jobs.Op.TheVariants.{Lk, Problem, Proves, Show, Measure, Subst, Cutelim, Eliminate, Define, Unfold, Sat, Prove, Resolution, Tautology, Expansion, Expand, Fromexp, Interpolate, Herbrand, Cutintro}
use Rattle.job_lang.specs.declared.jobs.Job.{Job}
use Rattle.job_lang.specs.declared.jobs.JobError.{JobError}
use Rattle.job_lang.specs.declared.jobs.JobError.TheVariants.{Memory, Fault}
use Rattle.job_words.specs.Names.{is_job_name}
use Rattle.job_lang.specs.Places.{path}
use Rattle.job_lang.specs.Fields.{Reading, ◌>>=◌, or_fault, text_at}
use Rattle.job_lang.specs.Formulas.{formula_at}
use Rattle.job_lang.specs.Sequents.{sequent_at, part_at}
use Rattle.job_lang.specs.Maps.{map_at}
use Rattle.job_lang.specs.Budgets.{budget_at}
use Rattle.job_lang.specs.Widths.{width_at}
use Rattle.job_lang.specs.RoundNumbers.{rounds_at}
use Rattle.job_lang.specs.Problems.{problem_at}
use Rattle.job_words.specs.RuleKinds.{is_text}
use Rattle.job_lang.specs.Steps.{steps_at}
use Rattle.job_lang.specs.Resolutions.{res_steps_at}
use Rattle.job_lang.specs.Expansions.{flat_at}
use Rattle.job_lang.specs.Definitions.{name_at, variables_at, using_at}

-- the JSON value of a line, where it has one: a line that isn't UTF-8 has none
abbrev pub value_of : List ℕ → Reading Data
value_of line = or_fault Json (if is_utf8 line then read line else None)

-- the job's name
abbrev pub name_of : Data → Reading (List ℕ)
name_of d = do
  name ← text_at Top (codes "job") d
  (if is_job_name name then Ok name else Err (Field (path Top (codes "job") None)))

-- the steps of a proof, and the definitions that are used, by the names of their jobs
abbrev pub lk_of : Data → Reading Op
lk_of d = do
  steps ← steps_at d
  using ← using_at d
  Ok (Lk steps using)

-- a problem
abbrev pub problem_of : Data → Reading Op
problem_of d = problem_at d >>= λ problem. Ok (Problem problem)

-- what is shown, and a proof, by the name of its job
abbrev pub show_of : Data → Reading Op
show_of d = text_at Top (codes "of") d >>= λ of. Ok (Show of)

abbrev pub measure_of : Data → Reading Op
measure_of d = text_at Top (codes "proof") d >>= λ proof. Ok (Measure proof)

abbrev pub eliminate_of : Data → Reading Op
eliminate_of d = text_at Top (codes "proof") d >>= λ proof. Ok (Eliminate proof)

abbrev pub unfold_of : Data → Reading Op
unfold_of d = text_at Top (codes "proof") d >>= λ proof. Ok (Unfold proof)

-- a problem, by the name of its job
abbrev pub sat_of : Data → Reading Op
sat_of d = text_at Top (codes "problem") d >>= λ problem. Ok (Sat problem)

-- a problem, by the name of its job, and a number of rounds
abbrev pub prove_of : Data → Reading Op
prove_of d = do
  problem ← text_at Top (codes "problem") d
  rounds ← rounds_at d
  Ok (Prove problem rounds)

-- a symbol, the variables for its arguments, the formula that it stands for, and the definitions that are used in that
abbrev pub define_of : Data → Reading Op
define_of d = do
  symbol ← name_at d
  vars ← variables_at d
  body ← formula_at Top (codes "body") d
  using ← using_at d
  Ok (Define symbol vars body using)

-- a proof and a problem, by the names of their jobs
abbrev pub proves_of : Data → Reading Op
proves_of d = do
  proof ← text_at Top (codes "proof") d
  problem ← text_at Top (codes "problem") d
  Ok (Proves proof problem)

-- a proof, by the name of its job, and a map from variables to terms
abbrev pub subst_of : Data → Reading Op
subst_of d = do
  proof ← text_at Top (codes "proof") d
  map ← map_at Top d
  Ok (Subst proof map)

-- a proof, by the name of its job, and a budget
abbrev pub cutelim_of : Data → Reading Op
cutelim_of d = do
  proof ← text_at Top (codes "proof") d
  budget ← budget_at d
  Ok (Cutelim proof budget)

-- a problem, by the name of its job, and the steps of a refutation
abbrev pub resolution_of : Data → Reading Op
resolution_of d = do
  problem ← text_at Top (codes "problem") d
  steps ← res_steps_at d
  Ok (Resolution problem steps)

-- a sequent and a budget
abbrev pub tautology_of : Data → Reading Op
tautology_of d = do
  sequent ← sequent_at Top d
  budget ← budget_at d
  Ok (Tautology sequent budget)

-- a flat list of expansion trees and a budget
abbrev pub expansion_of : Data → Reading Op
expansion_of d = do
  flat ← flat_at d
  budget ← budget_at d
  Ok (Expansion flat budget)

-- a proof, by the name of its job, and a budget
abbrev pub expand_of : Data → Reading Op
expand_of d = do
  proof ← text_at Top (codes "proof") d
  budget ← budget_at d
  Ok (Expand proof budget)

-- an expansion proof, by the name of its job, and a budget
abbrev pub fromexp_of : Data → Reading Op
fromexp_of d = do
  expansion ← text_at Top (codes "expansion") d
  budget ← budget_at d
  Ok (Fromexp expansion budget)

-- a proof, by the name of its job, the two parts of its end sequent, and a budget
abbrev pub interpolate_of : Data → Reading Op
interpolate_of d = do
  proof ← text_at Top (codes "proof") d
  first ← part_at First (codes "first") d
  second ← part_at Second (codes "second") d
  budget ← budget_at d
  Ok (Interpolate proof first second budget)

-- a proof, by the name of its job, and a budget
abbrev pub herbrand_of : Data → Reading Op
herbrand_of d = do
  proof ← text_at Top (codes "proof") d
  budget ← budget_at d
  Ok (Herbrand proof budget)

-- a proof, by the name of its job, a width, and a budget
abbrev pub cutintro_of : Data → Reading Op
cutintro_of d = do
  proof ← text_at Top (codes "proof") d
  width ← width_at d
  budget ← budget_at d
  Ok (Cutintro proof width budget)

-- an operation: its name, and how its fields are read
abbrev pub Reader : Type 0
Reader = List ℕ × (Data → Reading Op)

-- the operations without a budget, and those with one
abbrev pub unbudgeted : List Reader
unbudgeted =
    (codes "lk", lk_of) ∷ (codes "problem", problem_of) ∷ (codes "proves", proves_of) ∷ (codes "show", show_of) ∷ (codes "measure", measure_of)
    ∷ (codes "subst", subst_of) ∷ (codes "resolution", resolution_of) ∷ (codes "eliminate", eliminate_of) ∷ (codes "define", define_of)
    ∷ (codes "unfold", unfold_of) ∷ (codes "sat", sat_of) ∷ (codes "prove", prove_of) ∷ []

abbrev pub budgeted : List Reader
budgeted =
    (codes "cutelim", cutelim_of) ∷ (codes "tautology", tautology_of) ∷ (codes "expansion", expansion_of) ∷ (codes "expand", expand_of)
    ∷ (codes "fromexp", fromexp_of) ∷ (codes "interpolate", interpolate_of) ∷ (codes "herbrand", herbrand_of) ∷ (codes "cutintro", cutintro_of) ∷ []

-- the fields of the first operation of a list that has this name
abbrev pub op_among : List Reader → List ℕ → Data → Reading Op
op_among [] name d = Err UnknownOp
op_among (r ∷ rs) name d = if is_text name r.0 then r.1 d else op_among rs name d

-- the operation of this name with its fields
abbrev pub op_named : List ℕ → Data → Reading Op
op_named = op_among (unbudgeted ++ budgeted)

abbrev pub op_of : Data → Reading Op
op_of d = text_at Top (codes "op") d >>= λ name. op_named name d

-- what reading a line gives: the job's name, where its field is well formed, and what the job asks for or the first fault
pub record JobReading : Type 0 where
  pub name : Option (List ℕ)
  pub op : Reading Op

-- behind the name; without one nothing else is read
abbrev pub reads_named : Reading (List ℕ) → Data → JobReading
reads_named (Ok name) d = record { name = Some name; op = op_of d }
reads_named (Err c) d = record { name = None; op = Err c }

abbrev pub reads_value : Reading Data → JobReading
reads_value (Ok d) = reads_named (name_of d) d
reads_value (Err c) = record { name = None; op = Err c }

-- the job that a line is
unfoldable pub reads_job : List ℕ → JobReading
reads_job line = reads_value (value_of line)

-- an error of the code with the name that is known by then
abbrev pub error_with : Option (List ℕ) → ReadError → JobError
error_with name ReadMemory = Memory
error_with name (ReadFault c) = Fault name c

-- the code answers what reading gives, unless memory ran out
abbrev pub GivesJob : Result Job JobError → JobReading → Type 0
GivesJob (Ok job) r = (r.name ≡ Some job.name) × (r.op ≡ Ok job.op)
GivesJob (Err Memory) r = Unit {0}
GivesJob (Err (Fault name c)) r = (r.name ≡ name) × (r.op ≡ Err c)
