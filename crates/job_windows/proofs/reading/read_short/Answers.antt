use Rattle.std.proofs.Common.{ℕ, List, Ok, Err, refl, ap, ◌∙◌, subst}
use Rattle.std.specs.Prelude.{Option}
use Rattle.job_lang.specs.declared.jobs.JobError.{JobError}
use Rattle.job_lang.specs.Jobs.{reads_job, GivesJob}
use Rattle.session_laws.specs.Answers.{unread, run_read}
use Rattle.job_windows.proofs.Readings.{job_named, job_run, fault_named, fault_run}
use Rattle.job_windows.proofs.reading.read_short.Goals as goal

pub returns-in-Ok : goal.returns-in-Ok
returns-in-Ok c =
    let line = c.args.line.now in
    let job = c.in-Ok.job in
    let named = job_named line job c.requires c.in-Ok.ensures in (
      named,
      c.formed_readings.ensures line job.op c.in-Ok.ensures.1,
      λ lookup. job_run line lookup job c.requires c.in-Ok.ensures ∙ ap (λ (name : Option (List ℕ)). run_read lookup name (Ok job.op)) named,
    )

pub returns-in-Fault : goal.returns-in-Fault
returns-in-Fault c =
    let line = c.args.line.now in
    let gives = subst (λ (error : JobError). GivesJob (Err error) (reads_job line)) c.in-Fault.is c.in-Err.ensures in (
      fault_named line c.in-Fault.name c.in-Fault.cause c.requires gives,
      (unread c.in-Fault.cause, λ lookup. fault_run line lookup c.in-Fault.name c.in-Fault.cause c.requires gives, refl),
    )
