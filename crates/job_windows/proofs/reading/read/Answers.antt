use Rattle.std.proofs.Common.{ℕ, List, Bor, refl, sym, subst}
use Rattle.std.specs.Prelude.{Option, option_copied}
use Rattle.session_laws.specs.Jobs.{IsKept}
use Rattle.session_laws.specs.Answers.{too_long}
use Rattle.job_windows.proofs.Readings.{long_is, long_run, long_name}
use Rattle.job_windows.proofs.reading.read.Goals as goal

pub returns-in-None : goal.returns-in-None
returns-in-None c = λ text kept.
    let long = long_is text (subst (λ (o : Option (Bor (List ℕ))). IsKept (option_copied o) text) c.in-None.is kept) in
    (sym (long_name text long), (too_long, λ lookup. long_run text lookup long, refl))
