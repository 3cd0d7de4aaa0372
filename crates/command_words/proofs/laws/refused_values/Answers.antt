use Rattle.std.proofs.Common.{refl}
use Rattle.clap.proofs.OnLiterals.{clap_on_literals}
use Rattle.command_words.proofs.laws.refused_values.Goals as goal

pub returns-clause-zero : goal.returns-clause-zero
unfolding clap_on_literals
returns-clause-zero c = refl

pub returns-clause-too_many : goal.returns-clause-too_many
unfolding clap_on_literals
returns-clause-too_many c = refl

pub returns-clause-leading_zero : goal.returns-clause-leading_zero
unfolding clap_on_literals
returns-clause-leading_zero c = refl

pub returns-clause-plus : goal.returns-clause-plus
unfolding clap_on_literals
returns-clause-plus c = refl

pub returns-clause-minus : goal.returns-clause-minus
unfolding clap_on_literals
returns-clause-minus c = refl

pub returns-clause-no_digits : goal.returns-clause-no_digits
unfolding clap_on_literals
returns-clause-no_digits c = refl

pub returns-clause-letters : goal.returns-clause-letters
unfolding clap_on_literals
returns-clause-letters c = refl

pub returns-clause-generate_zero : goal.returns-clause-generate_zero
unfolding clap_on_literals
returns-clause-generate_zero c = refl

pub returns-clause-generate_too_many : goal.returns-clause-generate_too_many
unfolding clap_on_literals
returns-clause-generate_too_many c = refl
