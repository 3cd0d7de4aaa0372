-- The laws are lemmas.
use Rattle.clause_laws.proofs.Listed.{sound, sound_variants, sound_choice}
use Rattle.clause_laws.proofs.Variants.{variant_listed, variant_apart, choice_apart}
use Rattle.clause_laws.proofs.laws.lists_of_full_resolvents.Goals as goal

pub returns-clause-sound : goal.returns-clause-sound
returns-clause-sound c = sound

pub returns-clause-complete : goal.returns-clause-complete
returns-clause-complete c = variant_listed

pub returns-clause-sound_apart : goal.returns-clause-sound_apart
returns-clause-sound_apart c = sound_variants

pub returns-clause-complete_choice : goal.returns-clause-complete_choice
returns-clause-complete_choice c = choice_apart

pub returns-clause-complete_apart : goal.returns-clause-complete_apart
returns-clause-complete_apart c = variant_apart

pub returns-clause-sound_choice : goal.returns-clause-sound_choice
returns-clause-sound_choice c = sound_choice
