use Rattle.std.proofs.Common.{ℕ, List, Bor, subst}
use Rattle.std.specs.Prelude.{Option, option_copied}
use Rattle.session_laws.specs.Jobs.{IsKept}
use Rattle.proof_server.proofs.Turns.{short_is_job, long_is_job}
use Rattle.proof_server.proofs.session.is_job.Goals as goal

pub returns-in-Some : goal.returns-in-Some
returns-in-Some c = λ text kept.
    short_is_job c.in-Some.line.now text c.is_empty_line.result (subst (λ (o : Option (Bor (List ℕ))). IsKept (option_copied o) text) c.in-Some.is kept) c.is_empty_line.ensures

pub returns-in-None : goal.returns-in-None
returns-in-None c = λ text kept. long_is_job text (subst (λ (o : Option (Bor (List ℕ))). IsKept (option_copied o) text) c.in-None.is kept)
