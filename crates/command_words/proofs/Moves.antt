-- What each word does to clap's walk, where it makes no fault.
use Rattle.std.proofs.Common.{◌≡◌, ◌∙◌, List, [], ◌∷◌, Option, Some, None, Bool, true, false, refl, sym, subst, ◌⊎◌, arith, suc, drop}
use Rattle.std.specs.Prelude.{option_and_then}
use Rattle.std.specs.List.{All}
use Rattle.std.specs.Str.{IsUtf8, bytes_eq}
use Rattle.std.proofs.lemmas.Slice.Eq.{bytes_eq-Decides}
use Rattle.clap.specs.Faults.{check_fault, defaults_fault, flag_word_fault, long_fault, settle_fault, step_fault, turn_fault, use_fault}
use Rattle.clap.specs.Kinds.{or_else}
use Rattle.clap.specs.Lexer.{long_of, short_of}
use Rattle.clap.specs.Walk.{Held, Step, next, Text, Waiting, idle, option, Walk, after_flag, after_step, arg_by_long, finished, long_met, plain_word, settled, walk_from, walked}
use Rattle.clap.specs.declared.error.kind.ErrorKind.TheVariants as kind
use Rattle.command_words.proofs.Walks.{Fits, Given, Holds, LongName, Name, Use, an_option, answered, asking, asks, attached, behind_fault, bundle_refused, bundled, conflicts, dashed, dashes, found_long, generate, help_refused, holds_answered, joined, last, met, more, none_before, one_word, rest_fault, rest_more, rest_none, rule, rule_of, rules, shape, state, the_flag, the_help, title, turn_is, unknown, valued, values, walked_dashes, walked_is, workers}

-- ---- the words as options with texts for values

-- a word that can be the value of an option before it
pub record IsValue (word : Text) : Type 0 where
  pub no_dashes : bytes_eq word dashes ≡ false
  pub no_long : long_of word ≡ None
  pub no_short : short_of word ≡ None

-- the words are the use and the rest
abbrev pub Begins : Use → List Text → List Text → Type 0
Begins (valued o v) rest words = ((words ≡ dashed o ∷ v ∷ rest) × IsValue v) ⊎ (words ≡ one_word (valued o v) ∷ rest)
Begins bundled rest words = words ≡ one_word bundled ∷ rest

abbrev pub Spelled : List Use → List Text → Type 0
Spelled [] words = (words ≡ []) ⊎ (words ≡ dashes ∷ [])
Spelled (u ∷ uses) words = (rest : List Text) × Spelled uses rest × Begins u rest words

-- each option at most once
abbrev pub all_more : List Use → Given → Option Given
all_more [] g = Some g
all_more (u ∷ uses) g = option_and_then (all_more uses) (more u g)

abbrev pub EndsAs : Given → List Text → Held → Type 0
EndsAs g words end = (uses : List Use) × (t : Given) × Spelled uses words × (all_more uses g ≡ Some t) × Fits (settled rules end).rows t

-- the words behind an option begin with its value
abbrev pub EndsAsked : Name → Given → List Text → Held → Type 0
EndsAsked o g words end = (v : Text) × (rest : List Text) × (t : Given)
    × (words ≡ v ∷ rest) × IsValue v × (more (valued o v) g ≡ Some t) × EndsAs t rest end

-- ---- flags

abbrev pub StepOf : Held × Step → Walk → Text → Walk
StepOf m w word = after_step rules word w m.0 m.1

pub fault_joined : (u : Use) (h : Held)
    → long_fault rules false (Some (rule_of u)) (attached u) h
    ≡ or_else (settle_fault rules false h) (use_fault false (rule_of u) (values u) (settled rules h).rows)
fault_joined (valued workers v) h = refl
fault_joined (valued generate v) h = refl
fault_joined bundled h = refl

pub fault_alone : (o : Name) (h : Held) → long_fault rules false (Some (rule o)) None h ≡ settle_fault rules false h
fault_alone workers h = refl
fault_alone generate h = refl

pub met_joined : (u : Use) (w : Waiting) (word : Text) (h : Held)
    → after_flag rules w word (long_met rules (Some (rule_of u)) (attached u) h).0 (long_met rules (Some (rule_of u)) (attached u) h).1
    ≡ (joined u h, next idle)
met_joined (valued workers v) w word h = refl
met_joined (valued generate v) w word h = refl
met_joined bundled w word h = refl

pub met_alone : (o : Name) (w : Waiting) (word : Text) (h : Held)
    → after_flag rules w word (long_met rules (Some (rule o)) None h).0 (long_met rules (Some (rule o)) None h).1
    ≡ (asking o h, next (option (title o)))
met_alone workers w word h = refl
met_alone generate w word h = refl

pub met_value : (o : Name) (v : Text) (h : Held) → plain_word rules (option (title o)) v (asking o h) ≡ (answered o v h, next idle)
met_value workers v h = refl
met_value generate v h = refl

-- where what is pending makes a fault, no flag is taken
no_flag : (word : Text) (h : Held) → IsUtf8 word → h.skip ≡ 0 → (settle_fault rules false h ≡ [] → ⊥) → (x : Option (Text × Option Text))
    → flag_word_fault rules false x word h ≡ [] → (x ≡ None) × (short_of word ≡ None)
no_flag word h utf8 whole faulty (Some (name, v)) none = absurd (by_name (found_long name) v none)
  where
    at_use : (u : Use) → long_fault rules false (Some (rule_of u)) (attached u) h ≡ [] → ⊥
    at_use u e =
        faulty (none_before (settle_fault rules false h) (use_fault false (rule_of u) (values u) (settled rules h).rows)
        (rw (fault_joined u h) at e)).0

    by_name : LongName name → (u : Option Text) → long_fault rules false (arg_by_long rules name) u h ≡ [] → ⊥
    by_name (an_option o is found) (Some x) e = at_use (valued o x) (rw found at e)
    by_name (an_option o is found) None e = faulty (rw (fault_alone o h) at (rw found at e))
    by_name (the_flag is found) None e = at_use bundled (rw found at e)
    by_name (the_flag is found) (Some x) e = let bad : kind.TooManyValues ∷ [] ≡ [] = rw found at e in cc
    by_name (the_help found) u e = help_refused u h (rw found at e)
    by_name (unknown found) u e = let bad : kind.UnknownArgument ∷ [] ≡ [] = rw found at e in cc
no_flag word h utf8 whole faulty None none = (refl, by_short (short_of word) refl)
  where
    by_short : (s : Option Text) → short_of word ≡ s → short_of word ≡ None
    by_short (Some flags) e = absurd (bundle_refused word flags h utf8 e whole (rw e at none))
    by_short None e = e

-- ---- the parts of a turn

abbrev pub MetAt : Waiting → Text → Held → Held × Step
MetAt w word h = met w word (long_of word) h

-- `--` is the last word
pub dashes_end : (w : Waiting) (word : Text) (h : Held) (words : List Text) → word ≡ dashes → rest_fault (state w h) (word ∷ words) ≡ []
    → (words ≡ []) × (settle_fault rules false h ≡ [])
dashes_end w word h words is none =
    let all : rest_fault (state w h) (dashes ∷ words) ≡ [] = rw is at none in
    let later = (none_before (turn_fault shape [] (state w h) dashes) (rest_fault (walked rules [] (state w h) dashes) words)
    (rw (rest_more (state w h) dashes words) at all)).1 in
    behind_fault w h words (rw (walked_dashes w h) at later)

-- any other word: the faults of its flag, of what it is, and of the words behind it
pub record Turn (w : Waiting) (word : Text) (h : Held) (words : List Text) : Type 0 where
  pub flag : flag_word_fault rules false (long_of word) word h ≡ []
  pub step : step_fault shape 1 (MetAt w word h).0 (MetAt w word h).1 ≡ []
  pub later : rest_fault (StepOf (MetAt w word h) (state w h) word) words ≡ []

pub turn_of : (w : Waiting) (word : Text) (h : Held) (words : List Text) → bytes_eq word dashes ≡ false → rest_fault (state w h) (word ∷ words) ≡ []
    → Turn w word h words
turn_of w word h words other none =
    let parts = none_before (turn_fault shape [] (state w h) word) (rest_fault (walked rules [] (state w h) word) words)
    (rw (rest_more (state w h) word words) at none) in
    let turn = none_before (flag_word_fault rules false (long_of word) word h) (step_fault shape 1 (MetAt w word h).0 (MetAt w word h).1)
    (rw (turn_is w word h other) at parts.0) in
    record { flag = turn.0; step = turn.1; later = rw (walked_is w word h other) at parts.1 }

-- a stray word is a fault
pub stray : (word : Text) (h : Held) → long_of word ≡ None → short_of word ≡ None
    → step_fault shape 1 (MetAt idle word h).0 (MetAt idle word h).1 ≡ [] → ⊥
stray word h long short none = let bad : kind.UnknownArgument ∷ [] ≡ [] = rw (long, short) at none in cc

-- where what is pending makes a fault, nothing mends it
no_mending : (h : Held) (words : List Text) → All IsUtf8 words → h.skip ≡ 0 → (settle_fault rules false h ≡ [] → ⊥)
    → rest_fault (walk_from h) words ≡ [] → ⊥
no_mending h [] utf8 whole faulty none =
    faulty (none_before (settle_fault rules false h)
    (or_else (defaults_fault (settled rules h).rows rules) (check_fault shape (finished rules h) false))
    (rw (rest_none (walk_from h)) at none)).0
no_mending h (word ∷ words) utf8 whole faulty none = at (bytes_eq word dashes) refl
  where
    at : (t : Bool) → bytes_eq word dashes ≡ t → ⊥
    at true e = faulty (dashes_end idle word h words ((bytes_eq-Decides word dashes).0 e) none).1
    at false e =
        let turn = turn_of idle word h words e none in
        let plain = no_flag word h (utf8 0 word (omega arith)) whole faulty (long_of word) turn.flag in
        stray word h plain.0 plain.1 turn.step

-- ---- the value of an option

asking_faulty : (o : Name) (h : Held) → settle_fault rules false (asking o h) ≡ [] → ⊥
asking_faulty o h e = let bad : kind.InvalidValue ∷ [] ≡ [] = sym (asks o h) ∙ e in cc

answered_faulty : (o : Name) (v : Text) (h : Held) (g : Given) → Holds h g → more (valued o v) g ≡ None
    → settle_fault rules false (answered o v h) ≡ [] → ⊥
answered_faulty o v h g holds again e = let bad : kind.ArgumentConflict ∷ [] ≡ [] = sym (conflicts o v h g holds again) ∙ e in cc

abbrev pub Reads : List Text → Type 0
Reads words = All IsUtf8 words → (g : Given) (h : Held) → Holds h g → rest_fault (walk_from h) words ≡ [] → EndsAs g words (last (walk_from h) words)

pub rest_of : (word : Text) (words : List Text) → All IsUtf8 (word ∷ words) → All IsUtf8 words
rest_of word words all = λ k d lt. all (suc k) d (omega arith)

-- the word behind an option
pub value_step : (o : Name) (words : List Text) → Reads (drop 1 words) → All IsUtf8 words → (g : Given) (h : Held) → Holds h g
    → rest_fault (state (option (title o)) (asking o h)) words ≡ [] → EndsAsked o g words (last (state (option (title o)) (asking o h)) words)
value_step o [] later utf8 g h holds none =
    absurd (asking_faulty o h (none_before (settle_fault rules false (asking o h))
    (or_else (defaults_fault (settled rules (asking o h)).rows rules) (check_fault shape (finished rules (asking o h)) false))
    (rw (rest_none (state (option (title o)) (asking o h))) at none)).0)
value_step o (v ∷ rest) later utf8 g h holds none = at (bytes_eq v dashes) refl
  where
    found : (t : Given) → bytes_eq v dashes ≡ false → (long_of v ≡ None) × (short_of v ≡ None) → more (valued o v) g ≡ Some t
        → rest_fault (walk_from (answered o v h)) rest ≡ []
        → walked rules [] (state (option (title o)) (asking o h)) v ≡ walk_from (answered o v h)
        → EndsAsked o g (v ∷ rest) (last (state (option (title o)) (asking o h)) (v ∷ rest))
    found t other plain is none' moved = (
      v,
      rest,
      t,
      refl,
      record { no_dashes = other; no_long = plain.0; no_short = plain.1 },
      is,
      subst (λ w. EndsAs t rest (last w rest)) (sym moved) (later (rest_of v rest utf8) t (answered o v h) (holds_answered o v h g t holds is) none'),
    )

    by_more : (m : Option Given) → more (valued o v) g ≡ m → bytes_eq v dashes ≡ false → (long_of v ≡ None) × (short_of v ≡ None)
        → rest_fault (walk_from (answered o v h)) rest ≡ []
        → walked rules [] (state (option (title o)) (asking o h)) v ≡ walk_from (answered o v h)
        → EndsAsked o g (v ∷ rest) (last (state (option (title o)) (asking o h)) (v ∷ rest))
    by_more None is other plain none' moved =
        absurd (no_mending (answered o v h) rest (rest_of v rest utf8) holds.whole (answered_faulty o v h g holds is) none')
    by_more (Some t) is other plain none' moved = found t other plain is none' moved

    at : (t : Bool) → bytes_eq v dashes ≡ t → EndsAsked o g (v ∷ rest) (last (state (option (title o)) (asking o h)) (v ∷ rest))
    at true e = absurd (asking_faulty o h (dashes_end (option (title o)) v (asking o h) rest ((bytes_eq-Decides v dashes).0 e) none).1)
    at false e =
        let turn = turn_of (option (title o)) v (asking o h) rest e none in
        let plain = no_flag v (asking o h) (utf8 0 v (omega arith)) holds.whole (asking_faulty o h) (long_of v) turn.flag in
        let is_met : MetAt (option (title o)) v (asking o h) ≡ (answered o v h, next idle) = rw (plain.0, plain.1) (met_value o v h) in
        by_more (more (valued o v) g) refl e plain (rw is_met at turn.later) (walked_is (option (title o)) v (asking o h) e ∙ rw is_met refl)
