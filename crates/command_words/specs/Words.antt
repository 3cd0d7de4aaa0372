-- The command line as clap states it.
use Rattle.std.specs.Prelude.{◌≡◌, ℕ, Bool, false, List, ◌∷◌, Option, Some, None, Result, MatchResult, option_map, codes, if◌then◌else◌}
use Rattle.std.specs.Str.{bytes_eq}
use Rattle.clap.specs.Words.{App, Row, Rule, Text, fault_of, first_of, matches_of, new_app, new_rule, one_of, with_rule}
use Rattle.clap.specs.Walk.{is_empty}
use Rattle.clap.specs.declared.builder.action.ArgAction.TheVariants.{SetTrue}
use Rattle.command_words.specs.Numbers.{number_up_to}
use Rattle.command_words.specs.Taken.{settings_from}
use Rattle.command_words.specs.declared.reading.Settings.{Settings}
use Rattle.command_words.specs.declared.reading.WordsError.{WordsError}
use Rattle.command_words.specs.declared.reading.WordsError.TheVariants.{Usage}

-- the option `--workers` with one value, the option `--gen` with one value, and the flag `--sessions`
abbrev pub workers_rule : Rule
workers_rule = record (new_rule (codes "workers")) { long = Some (codes "workers") }

abbrev pub generate_rule : Rule
generate_rule = record (new_rule (codes "gen")) { long = Some (codes "gen") }

abbrev pub sessions_rule : Rule
sessions_rule = record (new_rule (codes "sessions")) { long = Some (codes "sessions"); action = Some SetTrue }

-- the command
abbrev pub gaptd : App
gaptd = with_rule (with_rule (with_rule (new_app (codes "gaptd")) workers_rule) generate_rule) sessions_rule

-- clap finds no fault in the line, which begins with the program's name
abbrev pub is_taken : List Text → Bool
is_taken line = is_empty (fault_of gaptd line)

-- the number of workers: 4 where the option is absent, else its value, from 1 to 16
abbrev pub workers_of : Option Text → Option ℕ
workers_of None = Some 4
workers_of (Some text) = number_up_to 16 text

-- how many jobs to generate: none where the option is absent, else its value, from 1 to 100,000
abbrev pub generate_of : Option Text → Option (Option ℕ)
generate_of None = Some None
generate_of (Some text) = option_map Some (number_up_to 100000 text)

-- whether the input is a bundle: where the flag reads as true
abbrev pub sessions_of : Option Text → Bool
sessions_of None = false
sessions_of (Some text) = bytes_eq text (codes "true")

-- the settings that the matches hold
abbrev pub settings_in : List Row → Option Settings
settings_in rows = settings_from (workers_of (first_of (codes "workers") rows)) (generate_of (first_of (codes "gen") rows))
    (Some (sessions_of (one_of (codes "sessions") rows)))

-- the settings that the line asks for, where the command takes it
abbrev pub settings_of_line : List Text → Option Settings
settings_of_line line = if is_taken line then settings_in (matches_of gaptd line) else None

-- the settings that the words after the program's name ask for
abbrev pub settings_of : List Text → Option Settings
settings_of words = settings_of_line (codes "gaptd" ∷ words)

-- what is answered for settings or their absence: just that, unless memory runs out
abbrev pub Answers : Option Settings → Result Settings WordsError → Type 0
Answers wanted r = MatchResult r (λ s. wanted ≡ Some s) (λ e. e ≡ Usage → wanted ≡ None)
