-- The words that the command takes by clap's statement are those that ask for settings, and for just these settings.
use Rattle.std.proofs.Common.{map, Result, Ok, Err, IfOk, String, string_bytes, ◌==◌, zero, suc, ◌≡◌, ◌∙◌, ◌<◌, ◌≤◌, ◌^◌, ℕ, List, [], ◌∷◌, ◌++◌, Option, Some, None, Bool, true, false, refl, sym, ap, ap₂, subst, inl, inr, codes, is_some, length, get_or, option_map, arith, lit<}
use Rattle.std.specs.Prelude.{nat_le, option_and_then, unwrap_or}
use Rattle.std.specs.Char.{encode_utf8}
use Rattle.std.specs.Fmt.{decimal}
use Rattle.std.specs.List.{All}
use Rattle.std.specs.Str.{IsUtf8, all_ascii_digits}
use Rattle.std.specs.Str.Parse.{digits_value}
use Rattle.std.proofs.lemmas.Bool.Decides.{nat_tests}
use Rattle.std.proofs.lemmas.Fmt.{decimal-digits_value, decimal_digit, first_decimal}
use Rattle.std.proofs.lemmas.List.Elements.{All-cons, All-nil, All-tail}
use Rattle.clap.specs.declared.error.kind.ErrorKind.{ErrorKind}
use Rattle.clap.specs.declared.parser.matches.ValueSource.TheVariants.{DefaultValue}
use Rattle.std.proofs.lemmas.Str.{IsUtf8-string_bytes}
use Rattle.command_words.specs.declared.reading.WordsError.{WordsError}
use Rattle.command_words.specs.declared.reading.WordsError.TheVariants.{Usage}
use Rattle.clap.specs.Walk.{Row, is_empty, Text, more_values, nothing_held, reading_by, row_text, settled, walk_from, with_default}
use Rattle.clap.specs.Words.{Kinds, fault_of, first_of, matches_of, one_of}
use Rattle.command_words.specs.Numbers.{has_leading_digit, number_up_to}
use Rattle.command_words.specs.Taken.{AskFor, Choice, IsInRange, Write, WriteChoice, bundled_by, bundled_in, generate_by, generate_in, made_of, settings_from, workers_by, workers_in}
use Rattle.command_words.specs.Taken as taken
use Rattle.command_words.specs.Words.{Answers, gaptd, generate_of, settings_of, workers_of}
use Rattle.command_words.specs.declared.reading.Settings.{Settings}
use Rattle.command_words.proofs.Complete.{complete}
use Rattle.command_words.proofs.Moves.{Begins, IsValue, Spelled, all_more}
use Rattle.command_words.proofs.NumberLemmas.{own_digits}
use Rattle.command_words.proofs.Readings.{number_back}
use Rattle.command_words.proofs.Sound.{fault_is_rest, holds_nothing, sound}
use Rattle.command_words.proofs.Walks.{Fits, Given, Use, added, behind_none, behind_other, bundled, finished_is, flag, found, generate, given, has_found, last, nothing, row, rules, valued, workers}

-- ---- numbers

first_digit : (text : Text) → has_leading_digit text ≡ true → (0 < length text) × (48 < get_or text 0 0)
first_digit [] led = cc
first_digit (x ∷ xs) led = (omega arith, grind (arith, nat_tests))

positive : (n : ℕ) → 48 < get_or (decimal n) 0 0 → 1 ≤ n
positive zero low = let bad : 48 < get_or (48 ∷ []) 0 0 = rw (decimal_digit 0 (omega arith)) at low in absurd (omega arith)
positive (suc n) low = omega arith

-- a text that is read as a number is that number's decimal text
written : (most n : ℕ) (text : Text) → most < 2 ^ 64 → number_up_to most text ≡ Some n → (text ≡ decimal n) × (1 ≤ n) × (n ≤ most)
written most n text fits e = at (has_leading_digit text) (all_ascii_digits text) (nat_le (digits_value 10 text) most) refl refl refl
  where
    goal_of : has_leading_digit text ≡ true → all_ascii_digits text ≡ true → digits_value 10 text ≤ most → digits_value 10 text ≡ n
        → (text ≡ decimal n) × (1 ≤ n) × (n ≤ most)
    goal_of led digits within is =
        let first = first_digit text led in
        let small : digits_value 10 text < 2 ^ 64 = omega arith in
        let spelled : decimal (digits_value 10 text) ≡ text =
        decimal-digits_value own_digits text digits first.0 (λ zero_first. absurd (omega (arith, first.1))) small in
        let same : text ≡ decimal n = sym spelled ∙ ap decimal is in
        (same, positive n (rw (← same) first.1), omega arith)

    at : (a b c : Bool) → has_leading_digit text ≡ a → all_ascii_digits text ≡ b → nat_le (digits_value 10 text) most ≡ c
        → (text ≡ decimal n) × (1 ≤ n) × (n ≤ most)
    at true true true f g h =
        let same : Some (digits_value 10 text) ≡ Some n = rw (f, g, h) at e in
        goal_of f g (grind (arith, nat_tests)) (ap (λ o. unwrap_or o 0) same)
    at true true false f g h = let bad : None ≡ Some n = rw (f, g, h) at e in cc
    at true false c f g h = let bad : None ≡ Some n = rw (f, g) at e in cc
    at false b c f g h = let bad : None ≡ Some n = rw f at e in cc

-- a word that begins with a digit is no flag
value_word : (word : Text) → 48 < get_or word 0 0 → IsValue word
value_word [] low = absurd (omega arith)
value_word (x ∷ xs) low =
    let other : (x == 45) ≡ false = grind (arith, nat_tests) in
    record { no_dashes = rw other refl; no_long = rw other refl; no_short = rw other refl }

-- ---- settings from what was given

-- what the command reads of the matches
abbrev Read : List Row → Option Text → Option Text → Text → Type 0
Read rows w g text = (first_of (codes "workers") rows ≡ w) × (first_of (codes "gen") rows ≡ g) × (one_of (codes "sessions") rows ≡ Some text)

read_of : (rows : List Row) (w g : Option Text) (r : Row) (text : Text) → found (codes "workers") rows ≡ option_map (λ v. row (valued workers v)) w
    → found (codes "gen") rows ≡ option_map (λ v. row (valued generate v)) g → found (codes "sessions") rows ≡ Some r → row_text r ≡ Some text
    → Read rows w g text
read_of rows None None r text a b c e = (rw a refl, rw b refl, rw c e)
read_of rows None (Some u) r text a b c e = (rw a refl, rw b refl, rw c e)
read_of rows (Some v) None r text a b c e = (rw a refl, rw b refl, rw c e)
read_of rows (Some v) (Some u) r text a b c e = (rw a refl, rw b refl, rw c e)

-- the row that the flag has by default
abbrev default_row : Row
default_row = record {
  id = codes "sessions";
  values = codes "false" ∷ [];
  count = None;
  source = Some DefaultValue;
  reading = reading_by flag;
}

abbrev pub flag_text : Bool → Text
flag_text true = codes "true"
flag_text false = codes "false"

read_at_end : (rows : List Row) (w g : Option Text) (s : Bool) → Fits rows (given w g s) → Read (with_default rows flag) w g (flag_text s)
read_at_end rows w g true (a, b, c) =
    let is : with_default rows flag ≡ rows = rw (has_found (codes "sessions") rows ∙ ap is_some c) refl in
    subst (λ l. Read l w g (codes "true")) (sym is) (read_of rows w g (row bundled) (codes "true") a b c refl)
read_at_end rows w g false (a, b, c) =
    let is : with_default rows flag ≡ rows ++ default_row ∷ [] =
    rw (has_found (codes "sessions") rows ∙ ap is_some c) (added (codes "sessions") (more_values DefaultValue (codes "false" ∷ [])) (default_row ∷ [])
    rows c) in
    subst (λ l. Read l w g (codes "false")) (sym is)
    (read_of (rows ++ default_row ∷ []) w g default_row (codes "false") (behind_other (codes "workers") rows default_row refl ∙ a)
    (behind_other (codes "gen") rows default_row refl ∙ b) (behind_none (codes "sessions") rows default_row c) refl)

-- the same of the matches
pub read_given : (words : List Text) (w g : Option Text) (s : Bool) → Fits (settled rules (last (walk_from nothing_held) words)).rows (given w g s)
    → Read (matches_of gaptd (codes "gaptd" ∷ words)) w g (flag_text s)
read_given words w g s fits =
    subst (λ l. Read l w g (flag_text s)) (sym (finished_is (last (walk_from nothing_held) words)))
    (read_at_end (settled rules (last (walk_from nothing_held) words)).rows w g s fits)

abbrev settings_with : Given → Option Settings
settings_with (given w g s) = settings_from (workers_of w) (generate_of g) (Some s)

settings_given : (words : List Text) (t : Given) → fault_of gaptd (codes "gaptd" ∷ words) ≡ []
    → Fits (settled rules (last (walk_from nothing_held) words)).rows t → settings_of words ≡ settings_with t
settings_given words (given w g true) none fits = let read = read_given words w g true fits in rw (none, read.0, read.1, read.2) refl
settings_given words (given w g false) none fits = let read = read_given words w g false fits in rw (none, read.0, read.1, read.2) refl

-- ---- what uses give, as lists

abbrev workers_texts : List Use → List Text
workers_texts [] = []
workers_texts (valued workers v ∷ uses) = v ∷ workers_texts uses
workers_texts (u ∷ uses) = workers_texts uses

abbrev generate_texts : List Use → List Text
generate_texts [] = []
generate_texts (valued generate v ∷ uses) = v ∷ generate_texts uses
generate_texts (u ∷ uses) = generate_texts uses

abbrev flags : List Use → ℕ
flags [] = 0
flags (bundled ∷ uses) = suc (flags uses)
flags (u ∷ uses) = flags uses

-- one text at most
abbrev once : List Text → Option (Option Text)
once [] = Some None
once (v ∷ []) = Some (Some v)
once _ = None

-- what was given before, and then these
abbrev after_given : Option Text → List Text → List Text
after_given None vs = vs
after_given (Some v) vs = v ∷ vs

abbrev one_more : Bool → ℕ → ℕ
one_more false n = n
one_more true n = suc n

abbrev all_given : Option (Option Text) → Option (Option Text) → Option Bool → Option Given
all_given (Some w) (Some g) (Some s) = Some (given w g s)
all_given _ _ _ = None

no_second : (a : Option (Option Text)) (c : Option Bool) → all_given a None c ≡ None
no_second None c = refl
no_second (Some w) c = refl

no_third : (a b : Option (Option Text)) → all_given a b None ≡ None
no_third None b = refl
no_third (Some w) None = refl
no_third (Some w) (Some g) = refl

-- the uses taken in turn, as the lists of what they give
in_turn : (uses : List Use) (w g : Option Text) (s : Bool) → all_more uses (given w g s)
    ≡ all_given (once (after_given w (workers_texts uses))) (once (after_given g (generate_texts uses))) (bundled_by (one_more s (flags uses)))
in_turn [] None None false = refl
in_turn [] None None true = refl
in_turn [] None (Some u) false = refl
in_turn [] None (Some u) true = refl
in_turn [] (Some v) None false = refl
in_turn [] (Some v) None true = refl
in_turn [] (Some v) (Some u) false = refl
in_turn [] (Some v) (Some u) true = refl
in_turn (valued workers v ∷ uses) None g s = in_turn uses (Some v) g s
in_turn (valued workers v ∷ uses) (Some u) g s = refl
in_turn (valued generate v ∷ uses) w None s = in_turn uses w (Some v) s
in_turn (valued generate v ∷ uses) w (Some u) s =
    sym (no_second (once (after_given w (workers_texts uses))) (bundled_by (one_more s (flags uses))))
in_turn (bundled ∷ uses) w g false = in_turn uses w g true
in_turn (bundled ∷ uses) w g true =
    sym (no_third (once (after_given w (workers_texts uses))) (once (after_given g (generate_texts uses))))

none_from : (a : Option ℕ) (b : Option (Option ℕ)) → settings_from a b None ≡ None
none_from None b = refl
none_from (Some n) None = refl
none_from (Some n) (Some None) = refl
none_from (Some n) (Some (Some m)) = refl

no_jobs_from : (a : Option ℕ) (c : Option Bool) → settings_from a None c ≡ None
no_jobs_from None c = refl
no_jobs_from (Some n) c = refl

settings_apart : (a b : Option (Option Text)) (c : Option Bool)
    → option_and_then settings_with (all_given a b c) ≡ settings_from (option_and_then workers_of a) (option_and_then generate_of b) c
settings_apart (Some w) (Some g) (Some s) = refl
settings_apart (Some w) (Some g) None = sym (none_from (workers_of w) (generate_of g))
settings_apart (Some w) None c = sym (no_jobs_from (workers_of w) c)
settings_apart None b c = refl

abbrev settings_by : List Use → Option Settings
settings_by uses =
    settings_from (option_and_then workers_of (once (workers_texts uses))) (option_and_then generate_of (once (generate_texts uses)))
    (bundled_by (flags uses))

by_uses : (uses : List Use) → option_and_then settings_with (all_more uses nothing) ≡ settings_by uses
by_uses uses =
    ap (option_and_then settings_with) (in_turn uses None None false)
    ∙ settings_apart (once (workers_texts uses)) (once (generate_texts uses)) (bundled_by (flags uses))

-- ---- choices

abbrev use_of : Choice → Use
use_of (taken.workers n) = valued workers (decimal n)
use_of (taken.generate n) = valued generate (decimal n)
use_of taken.bundled = bundled

to_choice : (c : Choice) (rest words : List Text) → Begins (use_of c) rest words → WriteChoice c rest words
to_choice (taken.workers n) rest words (inl (is, plain)) = inl is
to_choice (taken.workers n) rest words (inr is) = inr is
to_choice (taken.generate n) rest words (inl (is, plain)) = inl is
to_choice (taken.generate n) rest words (inr is) = inr is
to_choice taken.bundled rest words is = is

to_write : (choices : List Choice) (words : List Text) → Spelled (map use_of choices) words → Write choices words
to_write [] words spelled = spelled
to_write (c ∷ choices) words (rest, spelled, begins) = (rest, to_write choices rest spelled, to_choice c rest words begins)

value_number : (most n : ℕ) → most < 2 ^ 64 → 1 ≤ n → n ≤ most → IsValue (decimal n)
value_number most n fits low high = value_word (decimal n) (first_decimal n (omega arith) (omega arith))

from_choice : (c : Choice) (rest words : List Text) → IsInRange c → WriteChoice c rest words → Begins (use_of c) rest words
from_choice (taken.workers n) rest words range (inl is) = inl (is, value_number 16 n (lit< tt) range.0 range.1)
from_choice (taken.workers n) rest words range (inr is) = inr is
from_choice (taken.generate n) rest words range (inl is) = inl (is, value_number 100000 n (lit< tt) range.0 range.1)
from_choice (taken.generate n) rest words range (inr is) = inr is
from_choice taken.bundled rest words range is = is

from_write : (choices : List Choice) (words : List Text) → All IsInRange choices → Write choices words → Spelled (map use_of choices) words
from_write [] words range write = write
from_write (c ∷ choices) words range (rest, write, is) =
    (rest, from_write choices rest (All-tail IsInRange c choices range) write, from_choice c rest words (range 0 c (omega arith)) is)

-- ---- the settings of the choices

abbrev IsUpTo : ℕ → ℕ → Type 0
IsUpTo most n = (1 ≤ n) × (n ≤ most)

workers_within : (choices : List Choice) → All IsInRange choices → All (IsUpTo 16) (workers_in choices)
workers_within [] range = All-nil (IsUpTo 16)
workers_within (taken.workers n ∷ choices) range =
    All-cons (IsUpTo 16) n (workers_in choices) (range 0 (taken.workers n) (omega arith))
    (workers_within choices (All-tail IsInRange (taken.workers n) choices range))
workers_within (taken.generate n ∷ choices) range = workers_within choices (All-tail IsInRange (taken.generate n) choices range)
workers_within (taken.bundled ∷ choices) range = workers_within choices (All-tail IsInRange taken.bundled choices range)

generate_within : (choices : List Choice) → All IsInRange choices → All (IsUpTo 100000) (generate_in choices)
generate_within [] range = All-nil (IsUpTo 100000)
generate_within (taken.generate n ∷ choices) range =
    All-cons (IsUpTo 100000) n (generate_in choices) (range 0 (taken.generate n) (omega arith))
    (generate_within choices (All-tail IsInRange (taken.generate n) choices range))
generate_within (taken.workers n ∷ choices) range = generate_within choices (All-tail IsInRange (taken.workers n) choices range)
generate_within (taken.bundled ∷ choices) range = generate_within choices (All-tail IsInRange taken.bundled choices range)

texts_of : (choices : List Choice) → (workers_texts (map use_of choices) ≡ map decimal (workers_in choices))
    × (generate_texts (map use_of choices) ≡ map decimal (generate_in choices)) × (flags (map use_of choices) ≡ bundled_in choices)
texts_of [] = (refl, refl, refl)
texts_of (taken.workers n ∷ choices) = let rest = texts_of choices in (ap (λ l. decimal n ∷ l) rest.0, rest.1, rest.2)
texts_of (taken.generate n ∷ choices) = let rest = texts_of choices in (rest.0, ap (λ l. decimal n ∷ l) rest.1, rest.2)
texts_of (taken.bundled ∷ choices) = let rest = texts_of choices in (rest.0, rest.1, ap suc rest.2)

workers_read : (ns : List ℕ) → All (IsUpTo 16) ns → option_and_then workers_of (once (map decimal ns)) ≡ workers_by ns
workers_read [] within = refl
workers_read (n ∷ []) within = let low = within 0 n (omega arith) in number_back 16 n (lit< tt) low.0 low.1
workers_read (n ∷ m ∷ ns) within = refl

generate_read : (ns : List ℕ) → All (IsUpTo 100000) ns → option_and_then generate_of (once (map decimal ns)) ≡ generate_by ns
generate_read [] within = refl
generate_read (n ∷ []) within = let low = within 0 n (omega arith) in ap (option_map Some) (number_back 100000 n (lit< tt) low.0 low.1)
generate_read (n ∷ m ∷ ns) within = refl

made_by : (choices : List Choice) → All IsInRange choices → settings_by (map use_of choices) ≡ made_of choices
made_by choices range =
    let texts = texts_of choices in
    let a : option_and_then workers_of (once (workers_texts (map use_of choices))) ≡ workers_by (workers_in choices) =
    ap (λ l. option_and_then workers_of (once l)) texts.0 ∙ workers_read (workers_in choices) (workers_within choices range) in
    let b : option_and_then generate_of (once (generate_texts (map use_of choices))) ≡ generate_by (generate_in choices) =
    ap (λ l. option_and_then generate_of (once l)) texts.1 ∙ generate_read (generate_in choices) (generate_within choices range) in
    ap₂ (λ x y. settings_from x y (bundled_by (flags (map use_of choices)))) a b
    ∙ ap (λ n. settings_from (workers_by (workers_in choices)) (generate_by (generate_in choices)) (bundled_by n)) texts.2

-- ---- the choices of uses that give settings

abbrev IsNumberUpTo : ℕ → Text → Type 0
IsNumberUpTo most text = (n : ℕ) × (number_up_to most text ≡ Some n)

numbers_from : (a : Option ℕ) (b : Option (Option ℕ)) (c : Option Bool) (settings : Settings) → settings_from a b c ≡ Some settings
    → (n : ℕ) × (m : Option ℕ) × (a ≡ Some n) × (b ≡ Some m)
numbers_from None b c settings e = cc
numbers_from (Some n) None c settings e = cc
numbers_from (Some n) (Some m) c settings e = (n, m, refl, refl)

workers_are : (vs : List Text) (n : ℕ) → option_and_then workers_of (once vs) ≡ Some n → All (IsNumberUpTo 16) vs
workers_are [] n e = All-nil (IsNumberUpTo 16)
workers_are (v ∷ []) n e = All-cons (IsNumberUpTo 16) v [] (n, e) (All-nil (IsNumberUpTo 16))
workers_are (v ∷ u ∷ vs) n e = cc

generate_are : (vs : List Text) (m : Option ℕ) → option_and_then generate_of (once vs) ≡ Some m → All (IsNumberUpTo 100000) vs
generate_are [] m e = All-nil (IsNumberUpTo 100000)
generate_are (v ∷ []) m e = All-cons (IsNumberUpTo 100000) v [] (at (number_up_to 100000 v) refl) (All-nil (IsNumberUpTo 100000))
  where
    at : (o : Option ℕ) → number_up_to 100000 v ≡ o → IsNumberUpTo 100000 v
    at (Some n) is = (n, is)
    at None is = let bad : None ≡ Some m = rw is at e in cc
generate_are (v ∷ u ∷ vs) m e = cc

chosen : (uses : List Use) → All (IsNumberUpTo 16) (workers_texts uses) → All (IsNumberUpTo 100000) (generate_texts uses)
    → (choices : List Choice) × All IsInRange choices × (uses ≡ map use_of choices)
chosen [] ws gs = ([], All-nil IsInRange, refl)
chosen (valued workers v ∷ uses) ws gs =
    let number = ws 0 v (omega arith) in
    let known = written 16 number.0 v (lit< tt) number.1 in
    let rest = chosen uses (All-tail (IsNumberUpTo 16) v (workers_texts uses) ws) gs in (
      taken.workers number.0 ∷ rest.0,
      All-cons IsInRange (taken.workers number.0) rest.0 (known.1, known.2) rest.1,
      ap₂ (λ t l. valued workers t ∷ l) known.0 rest.2,
    )
chosen (valued generate v ∷ uses) ws gs =
    let number = gs 0 v (omega arith) in
    let known = written 100000 number.0 v (lit< tt) number.1 in
    let rest = chosen uses ws (All-tail (IsNumberUpTo 100000) v (generate_texts uses) gs) in (
      taken.generate number.0 ∷ rest.0,
      All-cons IsInRange (taken.generate number.0) rest.0 (known.1, known.2) rest.1,
      ap₂ (λ t l. valued generate t ∷ l) known.0 rest.2,
    )
chosen (bundled ∷ uses) ws gs =
    let rest = chosen uses ws gs in
    (taken.bundled ∷ rest.0, All-cons IsInRange taken.bundled rest.0 tt rest.1, ap (λ l. bundled ∷ l) rest.2)

-- ---- both ways

not_empty : (k : ErrorKind) (ks : Kinds) → is_empty (k ∷ ks) ≡ false
not_empty k ks = grind (arith, nat_tests)

pub asked : (words : List Text) (settings : Settings) → All IsUtf8 words → settings_of words ≡ Some settings → AskFor words settings
asked words settings utf8 e = at (fault_of gaptd (codes "gaptd" ∷ words)) refl
  where
    by_spelling : (uses : List Use) → Spelled uses words → settings_by uses ≡ Some settings → AskFor words settings
    by_spelling uses spelled by =
        let numbers = numbers_from _ _ _ settings by in
        let parts = chosen uses (workers_are (workers_texts uses) numbers.0 numbers.2) (generate_are (generate_texts uses) numbers.1 numbers.3) in
        let spelled_so = subst (λ l. Spelled l words) parts.2 spelled in
        (parts.0, parts.1, to_write parts.0 words spelled_so, sym (made_by parts.0 parts.1) ∙ (ap settings_by (sym parts.2) ∙ by))

    at : (faults : Kinds) → fault_of gaptd (codes "gaptd" ∷ words) ≡ faults → AskFor words settings
    at (k ∷ ks) some = let bad : None ≡ Some settings = rw (some, not_empty k ks) at e in cc
    at [] none =
        let ends = sound (codes "gaptd") words utf8 none in
        by_spelling ends.0 ends.2
        (sym (by_uses ends.0) ∙ (ap (option_and_then settings_with) ends.3 ∙ (sym (settings_given words ends.1 none ends.4) ∙ e)))

pub taken_back : (words : List Text) (settings : Settings) → AskFor words settings → settings_of words ≡ Some settings
taken_back words settings (choices, range, write, made) = at (all_more (map use_of choices) nothing) refl
  where
    by : option_and_then settings_with (all_more (map use_of choices) nothing) ≡ Some settings
    by = by_uses (map use_of choices) ∙ (made_by choices range ∙ made)

    at : (m : Option Given) → all_more (map use_of choices) nothing ≡ m → settings_of words ≡ Some settings
    at None all = let bad : None ≡ Some settings = sym (ap (option_and_then settings_with) all) ∙ by in cc
    at (Some t) all =
        let passes = complete (map use_of choices) words (from_write choices words range write) nothing t nothing_held holds_nothing all in
        settings_given words t (fault_is_rest (codes "gaptd") words ∙ passes.0) passes.1 ∙ (sym (ap (option_and_then settings_with) all) ∙ by)

pub asked_once : (words : List Text) (settings others : Settings) → AskFor words settings → AskFor words others → settings ≡ others
asked_once words settings others asks other_asks =
    ap (λ o. unwrap_or o settings) (sym (taken_back words settings asks) ∙ taken_back words others other_asks)

-- ---- what is answered

pub taken_from : (words : List Text) (r : Result Settings WordsError) → All IsUtf8 words → Answers (settings_of words) r → IfOk r (AskFor words)
taken_from words (Ok settings) utf8 e = asked words settings utf8 e
taken_from words (Err error) utf8 e = tt

pub refused_from : (words : List Text) (r : Result Settings WordsError) → Answers (settings_of words) r → r ≡ Err Usage
    → (settings : Settings) → AskFor words settings → ⊥
refused_from words (Ok settings) e is other asks = cc
refused_from words (Err error) e is other asks =
    let usage : error ≡ Usage = cc in
    let bad : None ≡ Some other = sym (e usage) ∙ taken_back words other asks in cc

name_is_utf8 : IsUtf8 (codes "gaptd")
unfolding encode_utf8
name_is_utf8 = (codes "gaptd", (refl, refl))

module _ {Z : Type 0} where
  pub texts_are_utf8 : (words : List (String Z)) → All IsUtf8 (map string_bytes words)
  texts_are_utf8 [] = All-nil IsUtf8
  texts_are_utf8 (word ∷ words) = All-cons IsUtf8 (string_bytes word) (map string_bytes words) (IsUtf8-string_bytes word) (texts_are_utf8 words)

  pub line_is_utf8 : (line : List Text) (words : List (String Z)) → line ≡ codes "gaptd" ∷ map string_bytes words → All IsUtf8 line
  line_is_utf8 line words is =
      subst (All IsUtf8) (sym is) (All-cons IsUtf8 (codes "gaptd") (map string_bytes words) name_is_utf8 (texts_are_utf8 words))
