-- What reading a line gives, from what reading its parts gives.
use Rattle.std.proofs.Common.{◌≡◌, ℕ, List, Ok, Err, refl, sym, ap, ◌∙◌, subst}
use Rattle.std.specs.Prelude.{Option, Some, None}
use Rattle.serde_json.specs.Data.{Data}
use Rattle.job_lang.specs.declared.reading.ReadError.{ReadError}
use Rattle.job_lang.specs.declared.reading.ReadError.TheVariants.{Fault, Memory}
use Rattle.job_lang.specs.declared.jobs.Job.{Job}
use Rattle.job_lang.specs.declared.jobs.JobError.{JobError}
use Rattle.job_lang.specs.declared.jobs.Op.{Op}
use Rattle.job_lang.specs.Fields.{Reading, Fails}
use Rattle.job_lang.specs.Jobs.{value_of, name_of, op_of, JobReading, reads_named, reads_value, reads_job, error_with, GivesJob}

module _ (line : List ℕ) where
  -- the reading is known up to its operation
  stopped : (name : Option (List ℕ)) (read : Reading Op) (error : ReadError) (e : JobError) → e ≡ error_with name error → Fails error read
      → reads_job line ≡ record { name = name; op = read } → GivesJob (Err e) (reads_job line)
  stopped name read Memory e is fails reading = subst (λ x. GivesJob (Err x) (reads_job line)) (sym is) tt
  stopped name read (Fault c) e is fails reading =
      subst (λ x. GivesJob (Err x) (reads_job line)) (sym is) (ap (λ r. r.name) reading, ap (λ r. r.op) reading ∙ fails)

  line_is : (r : Reading Data) → value_of line ≡ r → reads_job line ≡ reads_value r
  unfolding reads_job
  line_is r is = ap reads_value is

  pub no_value : (error : ReadError) (e : JobError) → e ≡ error_with None error → Fails error (value_of line) → GivesJob (Err e) (reads_job line)
  no_value Memory e is fails = subst (λ x. GivesJob (Err x) (reads_job line)) (sym is) tt
  no_value (Fault c) e is fails = stopped None (Err c) (Fault c) e is refl (line_is (Err c) fails)

  pub no_name : (d : Data) (error : ReadError) (e : JobError) → value_of line ≡ Ok d → e ≡ error_with None error → Fails error (name_of d) → GivesJob (Err e) (reads_job line)
  no_name d Memory e value is fails = subst (λ x. GivesJob (Err x) (reads_job line)) (sym is) tt
  no_name d (Fault c) e value is fails = stopped None (Err c) (Fault c) e is refl (line_is (Ok d) value ∙ ap (λ r. reads_named r d) fails)

  pub no_op : (d : Data) (name : List ℕ) (error : ReadError) (e : JobError) → value_of line ≡ Ok d → name_of d ≡ Ok name → e ≡ error_with (Some name) error
      → Fails error (op_of d) → GivesJob (Err e) (reads_job line)
  no_op d name error e value named is fails =
      stopped (Some name) (op_of d) error e is fails (line_is (Ok d) value ∙ ap (λ r. reads_named r d) named)

  pub a_job : (d : Data) (job : Job) → value_of line ≡ Ok d → name_of d ≡ Ok job.name → op_of d ≡ Ok job.op → GivesJob (Ok job) (reads_job line)
  a_job d job value named op =
      let reading = line_is (Ok d) value ∙ ap (λ r. reads_named r d) named in
      (ap (λ (r : JobReading). r.name) reading, ap (λ (r : JobReading). r.op) reading ∙ op)
