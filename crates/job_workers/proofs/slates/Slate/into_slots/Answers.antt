use Rattle.std.proofs.Common.{◌∙◌, ap}
use Rattle.job_workers.specs.Events.{put_of}
use Rattle.job_workers.proofs.slates.Slate.into_slots.Goals as goal

pub returns-clause-puts : goal.returns-clause-puts
returns-clause-puts g c = c.into_slots.ensures.puts ∙ ap (λ v. put_of v.events) c.self.view_is
