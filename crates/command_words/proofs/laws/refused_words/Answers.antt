use Rattle.std.proofs.Common.{refl}
use Rattle.clap.proofs.OnLiterals.{clap_on_literals}
use Rattle.command_words.proofs.laws.refused_words.Goals as goal

pub returns-clause-help : goal.returns-clause-help
unfolding clap_on_literals
returns-clause-help c = refl

pub returns-clause-short_help : goal.returns-clause-short_help
unfolding clap_on_literals
returns-clause-short_help c = refl

pub returns-clause-version : goal.returns-clause-version
unfolding clap_on_literals
returns-clause-version c = refl

pub returns-clause-unknown : goal.returns-clause-unknown
unfolding clap_on_literals
returns-clause-unknown c = refl

pub returns-clause-positional : goal.returns-clause-positional
unfolding clap_on_literals
returns-clause-positional c = refl

pub returns-clause-empty : goal.returns-clause-empty
unfolding clap_on_literals
returns-clause-empty c = refl

pub returns-clause-abbreviated : goal.returns-clause-abbreviated
unfolding clap_on_literals
returns-clause-abbreviated c = refl

pub returns-clause-no_value : goal.returns-clause-no_value
unfolding clap_on_literals
returns-clause-no_value c = refl

pub returns-clause-option_for_value : goal.returns-clause-option_for_value
unfolding clap_on_literals
returns-clause-option_for_value c = refl

pub returns-clause-twice : goal.returns-clause-twice
unfolding clap_on_literals
returns-clause-twice c = refl

pub returns-clause-gen_with_sessions : goal.returns-clause-gen_with_sessions
unfolding clap_on_literals
returns-clause-gen_with_sessions c = refl

pub returns-clause-sessions_twice : goal.returns-clause-sessions_twice
unfolding clap_on_literals
returns-clause-sessions_twice c = refl

pub returns-clause-sessions_value : goal.returns-clause-sessions_value
unfolding clap_on_literals
returns-clause-sessions_value c = refl

pub returns-clause-behind_dashes : goal.returns-clause-behind_dashes
unfolding clap_on_literals
returns-clause-behind_dashes c = refl
