-- The laws are lemmas, over those of operations and of readings.
use Rattle.session_laws.proofs.Claiming.{holds_sound, all_claimed}
use Rattle.session_laws.proofs.laws.held_proofs.Goals as goal

pub returns-clause-held : goal.returns-clause-held
returns-clause-held c earlier =
    holds_sound c.claims.ensures.claimed c.claims.ensures.valid c.claims.ensures.sound (λ a. (c.replies.ensures.ok a).0) c.formed_readings.ensures earlier

pub returns-clause-claimed : goal.returns-clause-claimed
returns-clause-claimed c jobs =
    all_claimed c.claims.ensures.claimed c.claims.ensures.valid c.claims.ensures.sound (λ a. (c.replies.ensures.ok a).0) c.formed_readings.ensures jobs
