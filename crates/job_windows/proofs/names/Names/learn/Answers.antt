use Rattle.std.proofs.Common.{Bor, List, ℕ, sym, ap, ◌∙◌}
use Rattle.std.specs.Prelude.{Option, Some, option_copied}
use Rattle.session_laws.specs.Answers.{value_of}
use Rattle.job_windows.proofs.Learned.{known_unnamed}
use Rattle.job_windows.proofs.names.Names.learn.Goals as goal

pub returns-in-Some : goal.returns-in-Some
returns-in-Some c held earlier job known named next =
    c.put.ensures held earlier job known (named ∙ ap (λ (o : Option (Bor (List ℕ))). option_copied o) c.in-Some.is ∙ ap Some (sym c.as_str.ensures.text)) next

pub returns-in-None : goal.returns-in-None
returns-in-None c held earlier job known named next =
    known_unnamed earlier job c.args.self.now held (Some (value_of job.came)) (named ∙ ap (λ (o : Option (Bor (List ℕ))). option_copied o) c.in-None.is) known
