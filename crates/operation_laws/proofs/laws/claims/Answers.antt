-- The laws are lemmas.
use Rattle.std.proofs.Common.{subst}
use Rattle.operation_laws.specs.Answers.{May}
use Rattle.operation_laws.specs.Running.{run}
use Rattle.operation_laws.proofs.Sound.{made_sound, proofs_valid, held_sound}
use Rattle.operation_laws.proofs.Claimed.{claimed}
use Rattle.operation_laws.proofs.Rightly.{works_rightly}
use Rattle.operation_laws.proofs.laws.claims.Goals as goal

pub returns-clause-claimed : goal.returns-clause-claimed
returns-clause-claimed c op vs made formed count sound is =
    claimed
    (works_rightly c.readings.ensures.roots c.readings.ensures.right c.checks.ensures.proof c.extractions.ensures.proof c.buildings.ensures.valid c.buildings.ensures.end c.buildings.ensures.cut_free c.interpolations.ensures c.herbrand_sequents.ensures c.introductions.ensures c.marking.ensures.rule c.definings.ensures c.unfoldings.ensures)
    op vs made formed count sound is

pub returns-clause-valid : goal.returns-clause-valid
returns-clause-valid c op vs made formed sound is =
    proofs_valid made
    (made_sound
    (works_rightly c.readings.ensures.roots c.readings.ensures.right c.checks.ensures.proof c.extractions.ensures.proof c.buildings.ensures.valid c.buildings.ensures.end c.buildings.ensures.cut_free c.interpolations.ensures c.herbrand_sequents.ensures c.introductions.ensures c.marking.ensures.rule c.definings.ensures c.unfoldings.ensures)
    op vs made formed sound is)

pub returns-clause-sound : goal.returns-clause-sound
returns-clause-sound c op vs a formed sound may =
    held_sound a (λ made is.
    made_sound
    (works_rightly c.readings.ensures.roots c.readings.ensures.right c.checks.ensures.proof c.extractions.ensures.proof c.buildings.ensures.valid c.buildings.ensures.end c.buildings.ensures.cut_free c.interpolations.ensures c.herbrand_sequents.ensures c.introductions.ensures c.marking.ensures.rule c.definings.ensures c.unfoldings.ensures)
    op vs made formed sound (subst (May (run op vs)) is may))
