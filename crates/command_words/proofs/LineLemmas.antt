-- From what clap says of a parse to the settings that the line asks for.
use Rattle.std.proofs.Common.{◌≡◌, ◌∙◌, Bool, true, false, List, [], ◌∷◌, Option, Some, None, Result, refl, ap, subst, codes}
use Rattle.std.specs.List.{All}
use Rattle.std.specs.Option.{ok_or}
use Rattle.std.specs.Str.{IsUtf8}
use Rattle.std.proofs.lemmas.List.Elements.{All-tail}
use Rattle.clap.specs.Walk.{nothing_held, settled, walk_from}
use Rattle.clap.specs.Words.{App, Row, Text, HasMatchesOf, fault_of, first_of, first_value, found_of, is_simple, is_simple_and_free, matches_of, one_of, one_text, rows_of}
use Rattle.clap.specs.declared.parser.matches.ArgMatches.{ArgMatches}
use Rattle.clap.proofs.OnLiterals.{clap_on_literals}
use Rattle.clap.proofs.WalkLemmas.{first_value-rows, one_text-rows}
use Rattle.command_words.specs.Taken.{settings_from}
use Rattle.command_words.specs.Words.{Answers, gaptd, generate_of, sessions_of, settings_of_line, workers_of}
use Rattle.command_words.specs.declared.reading.Settings.{Settings}
use Rattle.command_words.specs.declared.reading.WordsError.{WordsError}
use Rattle.command_words.specs.declared.reading.WordsError.TheVariants.{Usage}
use Rattle.command_words.proofs.Sound.{sound}
use Rattle.command_words.proofs.Taken.{flag_text, read_given}
use Rattle.command_words.proofs.Walks.{Fits, Given, given, last, rules}

simple : is_simple gaptd ≡ true
unfolding clap_on_literals
simple = refl

simple_and_free : is_simple_and_free gaptd ≡ true
unfolding clap_on_literals
simple_and_free = refl

-- the flag reads as true or as false
abbrev IsFlag : List Row → Type 0
IsFlag rows = (s : Bool) × (one_of (codes "sessions") rows ≡ Some (flag_text s))

flag_in : (line : List Text) → All IsUtf8 line → fault_of gaptd line ≡ [] → IsFlag (matches_of gaptd line)
flag_in [] utf8 none = (false, refl)
flag_in (name ∷ words) utf8 none = let ends = sound name words (All-tail IsUtf8 name words utf8) none in of_given ends.1 ends.4
  where
    of_given : (t : Given) → Fits (settled rules (last (walk_from nothing_held) words)).rows t → IsFlag (matches_of gaptd (name ∷ words))
    of_given (given w g s) fits = (s, (read_given words w g s fits).2)

-- what clap says of the flag
pub record TellsFlag (text : Option Text) (b : Bool) : Type 0 where
  pub is_true : text ≡ Some (codes "true") → b ≡ true
  pub is_false : text ≡ Some (codes "false") → b ≡ false

flag_is : (rows : List Row) (b : Bool) → TellsFlag (one_of (codes "sessions") rows) b → IsFlag rows
    → b ≡ sessions_of (one_of (codes "sessions") rows)
flag_is rows b tells (true, e) = tells.is_true e ∙ rw e refl
flag_is rows b tells (false, e) = tells.is_false e ∙ rw e refl

answered : (wanted : Option Settings) → Answers wanted (ok_or wanted Usage)
answered None = λ e. refl
answered (Some s) = refl

-- a parse that succeeds
pub answers_taken : (app : App) (line : List Text) (m : ArgMatches) (workers generate : Option Text) (sessions : Bool) (s : Option Settings)
    (r : Result Settings WordsError)
    → app ≡ gaptd → All IsUtf8 line → (is_simple_and_free app ≡ true → fault_of app line ≡ []) → HasMatchesOf app line m
    → workers ≡ first_value (found_of m) (codes "workers") → generate ≡ first_value (found_of m) (codes "gen")
    → TellsFlag (one_text (found_of m) (codes "sessions")) sessions
    → s ≡ settings_from (workers_of workers) (generate_of generate) (Some sessions) → r ≡ ok_or s Usage → Answers (settings_of_line line) r
answers_taken app line m workers generate sessions s r is_gaptd utf8 faultless matches is_workers is_generate tells is_s is_r =
    let none : fault_of gaptd line ≡ [] = rw is_gaptd at (faultless (ap is_simple_and_free is_gaptd ∙ simple_and_free)) in
    let rows : rows_of (found_of m) ≡ matches_of gaptd line =
    (matches (ap is_simple is_gaptd ∙ simple)).0 ∙ ap (λ (a : App). matches_of a line) is_gaptd in
    let worker : workers ≡ first_of (codes "workers") (matches_of gaptd line) =
    is_workers ∙ first_value-rows (found_of m) (codes "workers") ∙ ap (first_of (codes "workers")) rows in
    let generated : generate ≡ first_of (codes "gen") (matches_of gaptd line) =
    is_generate ∙ first_value-rows (found_of m) (codes "gen") ∙ ap (first_of (codes "gen")) rows in
    let flag_row : one_text (found_of m) (codes "sessions") ≡ one_of (codes "sessions") (matches_of gaptd line) =
    one_text-rows (found_of m) (codes "sessions") ∙ ap (one_of (codes "sessions")) rows in
    let bundled : sessions ≡ sessions_of (one_of (codes "sessions") (matches_of gaptd line)) =
    flag_is (matches_of gaptd line) sessions (subst (λ t. TellsFlag t sessions) flag_row tells) (flag_in line utf8 none) in
    let all : settings_of_line line ≡ s = rw (none, is_s, worker, generated, bundled) refl in
    rw (all, is_r) (answered s)
