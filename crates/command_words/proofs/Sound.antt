-- Words in which clap finds no fault are options, each at most once, and perhaps `--` behind them.
use Rattle.std.proofs.Common.{◌≡◌, ◌∙◌, List, [], ◌∷◌, Option, Some, None, Bool, true, false, refl, sym, ap, subst, is_some, inl, inr, arith, drop}
use Rattle.std.specs.List.{All}
use Rattle.std.specs.Str.{IsUtf8, bytes_eq}
use Rattle.std.proofs.lemmas.Slice.Eq.{bytes_eq-Decides}
use Rattle.clap.specs.Faults.{entered_fault, flag_word_fault, fault_of, level_fault, long_fault, settle_fault, use_fault}
use Rattle.clap.specs.Simple.{built, entered}
use Rattle.command_words.specs.Words.{gaptd}
use Rattle.clap.specs.Lexer.{long_of, short_of}
use Rattle.clap.specs.Walk.{walk, Held, Text, next, idle, option, Walk, arg_by_long, nothing_held, settled, walk_from}
use Rattle.clap.specs.declared.error.kind.ErrorKind.TheVariants as kind
use Rattle.command_words.proofs.Lexing.{long_alone, long_joined}
use Rattle.command_words.proofs.Walks.{Fits, Given, Holds, LongName, Name, Use, an_option, asking, attached, bundle_refused, bundled, dashed, dashes, forbidden, found_long, help_refused, holds_joined, joined, last, more, named, none_before, nothing, one_word, rest_fault, rule_of, rules, shape, state, the_flag, the_help, title, unknown, valued, values, walked_dashes, walked_is}
use Rattle.command_words.proofs.Moves.{Begins, EndsAs, EndsAsked, MetAt, Reads, StepOf, Turn, dashes_end, fault_joined, met_alone, met_joined, rest_of, stray, turn_of, value_step}

-- a use in one word
joined_ends : (u : Use) (word : Text) (words : List Text) (g t : Given) (end : Held) → word ≡ one_word u → more u g ≡ Some t
    → EndsAs t words end → EndsAs g (word ∷ words) end
joined_ends u word words g t end is allowed (uses, k, spelled, all, fits) = (u ∷ uses, k, (words, spelled, begins u is), rw allowed all, fits)
  where
    begins : (w : Use) → word ≡ one_word w → Begins w words (word ∷ words)
    begins (valued o v) e = inr (ap (λ x. x ∷ words) e)
    begins bundled e = ap (λ x. x ∷ words) e

-- an option with its value behind it
apart_ends : (o : Name) (word : Text) (words : List Text) (g : Given) (end : Held) → word ≡ dashed o
    → EndsAsked o g words end → EndsAs g (word ∷ words) end
apart_ends o word words g end is (v, rest, t, words_are, plain, allowed, (uses, k, spelled, all, fits)) =
    (valued o v ∷ uses, k, (rest, spelled, inl (rw (is, words_are) refl, plain)), rw allowed all, fits)

-- the first word of those that are left
idle_step : (word : Text) (words : List Text) → Reads words → Reads (drop 1 words) → Reads (word ∷ words)
idle_step word words later after_value utf8 g h holds none = at (bytes_eq word dashes) refl
  where
    by_more : (u : Use) (m : Option Given) → more u g ≡ m → use_fault false (rule_of u) (values u) (settled rules h).rows ≡ []
        → word ≡ one_word u → rest_fault (walk_from (joined u h)) words ≡ [] → EndsAs g (word ∷ words) (last (walk_from (joined u h)) words)
    by_more u None again used is none' =
        let bad : kind.ArgumentConflict ∷ [] ≡ [] = sym (forbidden u (settled rules h).rows g holds.fits again) ∙ used in cc
    by_more u (Some t) allowed used is none' =
        joined_ends u word words g t (last (walk_from (joined u h)) words) is allowed
        (later (rest_of word words utf8) t (joined u h) (holds_joined u h g t holds allowed) none')

    by_use : (u : Use) (name : Text) → arg_by_long rules name ≡ Some (rule_of u) → long_of word ≡ Some (name, attached u) → word ≡ one_word u
        → Turn idle word h words → EndsAs g (word ∷ words) (last (StepOf (MetAt idle word h) (state idle h) word) words)
    by_use u name found is is_word turn =
        let flag_fault : flag_word_fault rules false (Some (name, attached u)) word h ≡ [] = rw is at turn.flag in
        let use_faults : long_fault rules false (Some (rule_of u)) (attached u) h ≡ [] = rw found at flag_fault in
        let used : use_fault false (rule_of u) (values u) (settled rules h).rows ≡ [] =
        (none_before (settle_fault rules false h) (use_fault false (rule_of u) (values u) (settled rules h).rows)
        (sym (fault_joined u h) ∙ use_faults)).1 in
        let is_met : MetAt idle word h ≡ (joined u h, next idle) = rw (is, found) (met_joined u idle word h) in
        subst (λ m. EndsAs g (word ∷ words) (last (StepOf m (state idle h) word) words)) (sym is_met)
        (by_more u (more u g) refl used is_word (rw is_met at turn.later))

    by_name : (name : Text) (v : Option Text) → LongName name → long_of word ≡ Some (name, v) → Turn idle word h words
        → EndsAs g (word ∷ words) (last (StepOf (MetAt idle word h) (state idle h) word) words)
    by_name name (Some v) (an_option o named found) is turn =
        by_use (valued o v) name found is (rw (← named) (long_joined word name v is)) turn
    by_name name None (an_option o named found) is turn =
        let is_met : MetAt idle word h ≡ (asking o h, next (option (title o))) = rw (is, found) (met_alone o idle word h) in
        let is_word : word ≡ dashed o = rw (← named) (long_alone word name is) in
        let end = last (state (option (title o)) (asking o h)) words in
        subst (λ m. EndsAs g (word ∷ words) (last (StepOf m (state idle h) word) words)) (sym is_met)
        (apart_ends o word words g end is_word (value_step o words after_value (rest_of word words utf8) g h holds (rw is_met at turn.later)))
    by_name name None (the_flag named found) is turn = by_use bundled name found is (rw (← named) (long_alone word name is)) turn
    by_name name (Some v) (the_flag named found) is turn =
        let flag_fault : flag_word_fault rules false (Some (name, Some v)) word h ≡ [] = rw is at turn.flag in
        let bad : kind.TooManyValues ∷ [] ≡ [] = rw found at flag_fault in cc
    by_name name v (the_help found) is turn =
        let flag_fault : flag_word_fault rules false (Some (name, v)) word h ≡ [] = rw is at turn.flag in
        absurd (help_refused v h (rw found at flag_fault))
    by_name name v (unknown found) is turn =
        let flag_fault : flag_word_fault rules false (Some (name, v)) word h ≡ [] = rw is at turn.flag in
        let bad : kind.UnknownArgument ∷ [] ≡ [] = rw found at flag_fault in cc

    by_short : (s : Option Text) → short_of word ≡ s → long_of word ≡ None → Turn idle word h words → ⊥
    by_short (Some flags) e is turn =
        let flag : flag_word_fault rules false None word h ≡ [] = rw is at turn.flag in
        bundle_refused word flags h (utf8 0 word (omega arith)) e holds.whole (rw e at flag)
    by_short None e is turn = stray word h is e turn.step

    by_long : (x : Option (Text × Option Text)) → long_of word ≡ x → Turn idle word h words
        → EndsAs g (word ∷ words) (last (StepOf (MetAt idle word h) (state idle h) word) words)
    by_long None is turn = absurd (by_short (short_of word) refl is turn)
    by_long (Some (name, v)) is turn = by_name name v (found_long name) is turn

    at : (t : Bool) → bytes_eq word dashes ≡ t → EndsAs g (word ∷ words) (last (walk_from h) (word ∷ words))
    at true e =
        let is = (bytes_eq-Decides word dashes).0 e in
        let ended = dashes_end idle word h words is none in
        let moved : last (walk_from h) (word ∷ words) ≡ h = rw (is, ended.0) (ap (λ (w : Walk). w.held) (walked_dashes idle h)) in
        ([], g, inr (rw (is, ended.0) refl), refl, subst (λ (k : Held). Fits (settled rules k).rows g) (sym moved) holds.fits)
    at false e =
        subst (λ w. EndsAs g (word ∷ words) (last w words)) (sym (walked_is idle word h e))
        (by_long (long_of word) refl (turn_of idle word h words e none))

both : (words : List Text) → Reads words × Reads (drop 1 words)
both [] = (λ utf8 g h holds none. ([], g, inl refl, refl, holds.fits), λ utf8 g h holds none. ([], g, inl refl, refl, holds.fits))
both (word ∷ words) = let parts = both words in (idle_step word words parts.0 parts.1, parts.0)

pub fault_is_rest : (name : Text) (words : List Text) → fault_of gaptd (name ∷ words) ≡ rest_fault (walk_from nothing_held) words
fault_is_rest name words = at (walk rules [] nothing_held words).stopped
  where
    at : (stop : Option (Text × List Text))
        → level_fault shape [] nothing_held words (is_some (entered (built gaptd) stop)) (entered_fault (built gaptd) stop)
        ≡ rest_fault (walk_from nothing_held) words
    at None = refl
    at (Some p) = refl

pub holds_nothing : Holds nothing_held nothing
holds_nothing = record { settles = refl; fits = (refl, refl, refl); whole = refl }

pub sound : (name : Text) (words : List Text) → All IsUtf8 words → fault_of gaptd (name ∷ words) ≡ []
    → EndsAs nothing words (last (walk_from nothing_held) words)
sound name words utf8 none = (both words).0 utf8 nothing nothing_held holds_nothing (sym (fault_is_rest name words) ∙ none)
