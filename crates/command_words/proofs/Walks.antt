-- clap's walk over the words of the command, option by option.
use Rattle.std.proofs.Common.{◌≡◌, ◌∙◌, ◌==◌, ◌⊎◌, ◌||◌, ℕ, Bool, true, false, List, [], ◌∷◌, ◌++◌, Option, Some, None, refl, sym, ap, subst, inl, inr, length, codes, arith, cond, find, fold, drop, option_map, is_some}
use Rattle.std.specs.Prelude.{unwrap_or, slice_get, encode_utf8, if◌then◌else◌}
use Rattle.std.specs.Option.{option_or}
use Rattle.std.specs.Str.{IsUtf8, bytes_eq, chars}
use Rattle.std.proofs.lemmas.Slice.Eq.{bytes_eq-Decides}
use Rattle.std.proofs.lemmas.List.{append-nil}
use Rattle.std.proofs.lemmas.List.Folds.{find-append}
use Rattle.std.proofs.lemmas.Str.{IsCharBoundary-after_ascii, IsUtf8-drop, encodes-chars}
use Rattle.clap.specs.Faults.{bundle_fault, check_fault, defaults_fault, flag_word_fault, flags_fault, long_fault, settle_fault, short_fault, step_fault, turn_fault, use_fault, walk_fault}
use Rattle.clap.specs.Kinds.{Kinds, or_else}
use Rattle.clap.specs.Lexer.{long_of, short_of}
use Rattle.clap.specs.Simple.{built, filled, help_rule, with_index, Shape}
use Rattle.clap.specs.Walk.{Held, Row, Rule, Text, Waiting, idle, option, positional, Walk, after_step, arg_by_long, arg_by_short, at_row, finished, has_row, long_or_other, more_values, reacted, reading_by, settled, subcommand_met, used, values_or_missing, walk_from, walked, with_default, without}
use Rattle.clap.specs.declared.error.kind.ErrorKind.TheVariants as kind
use Rattle.clap.specs.declared.parser.matches.ValueSource.TheVariants.{CommandLine}
use Rattle.command_words.specs.Words.{gaptd, generate_rule, sessions_rule, workers_rule}
use Rattle.command_words.proofs.Lexing.{short_parts, short_some}

-- ---- the command that is built

abbrev pub shape : Shape
shape = (built gaptd).top

abbrev pub rules : List Rule
rules = shape.rules

pub data Name : Type 0 where
  workers : Name
  generate : Name

abbrev pub rule : Name → Rule
rule workers = with_index 1 (filled workers_rule)
rule generate = with_index 1 (filled generate_rule)

abbrev pub title : Name → Text
title workers = codes "workers"
title generate = codes "gen"

abbrev pub dashed : Name → Text
dashed o = 45 ∷ 45 ∷ title o

abbrev pub dashes : Text
dashes = 45 ∷ 45 ∷ []

abbrev pub flag : Rule
flag = with_index 1 (filled sessions_rule)

-- an option with its value, or the flag
pub data Use : Type 0 where
  valued : Name → Text → Use
  bundled : Use

abbrev pub rule_of : Use → Rule
rule_of (valued o v) = rule o
rule_of bundled = flag

-- the value that the use has, as clap's walk takes it
abbrev pub values : Use → List Text
values (valued o v) = v ∷ []
values bundled = []

-- the use in one word, as the name and the value
abbrev pub named : Use → Text
named (valued o v) = title o
named bundled = codes "sessions"

abbrev pub attached : Use → Option Text
attached (valued o v) = Some v
attached bundled = None

abbrev pub one_word : Use → Text
one_word (valued o v) = dashed o ++ 61 ∷ v
one_word bundled = 45 ∷ 45 ∷ codes "sessions"

-- ---- faults in a row

pub none_before : (a b : Kinds) → or_else a b ≡ [] → (a ≡ []) × (b ≡ [])
none_before [] b e = (refl, e)
none_before (k ∷ ks) b e = cc

pub in_a_row : (a b c : Kinds) → or_else (or_else a b) c ≡ or_else a (or_else b c)
in_a_row [] b c = refl
in_a_row (k ∷ ks) b c = refl

abbrev pub end_fault : Held → Kinds
end_fault h =
    or_else (settle_fault rules false h) (or_else (defaults_fault (settled rules h).rows rules) (check_fault shape (finished rules h) false))

abbrev pub last : Walk → List Text → Held
last w words = (fold (walked rules []) w words).held

abbrev pub rest_fault : Walk → List Text → Kinds
rest_fault w words = or_else (walk_fault shape [] w words) (end_fault (last w words))

pub rest_more : (w : Walk) (word : Text) (words : List Text)
    → rest_fault w (word ∷ words) ≡ or_else (turn_fault shape [] w word) (rest_fault (walked rules [] w word) words)
unfolding walk_fault
rest_more w word words =
    in_a_row (turn_fault shape [] w word) (walk_fault shape [] (walked rules [] w word) words) (end_fault (last w (word ∷ words)))

pub rest_none : (w : Walk) → rest_fault w [] ≡ end_fault w.held
unfolding walk_fault
rest_none w = refl

-- the defaults, of which the flag has one, and the last checks
same_either_way : {X : Type 0} (b : Bool) (x : X) → cond b x x ≡ x
same_either_way true x = refl
same_either_way false x = refl

abbrev pub help : Rule
help = with_index 1 (filled help_rule)

pub finished_is : (h : Held) → finished rules h ≡ with_default (settled rules h).rows flag
finished_is h =
    let rows = (settled rules h).rows in
    ap (λ r. with_default (with_default (with_default r (rule generate)) flag) help) (same_either_way (has_row (codes "workers") rows) rows)
    ∙ (ap (λ r. with_default (with_default r flag) help) (same_either_way (has_row (codes "gen") rows) rows)
    ∙ same_either_way (has_row (codes "help") (with_default rows flag)) (with_default rows flag))

nothing_before : (b : Bool) (fault rest : Kinds) → or_else (cond (b || true) [] fault) rest ≡ rest
nothing_before true fault rest = refl
nothing_before false fault rest = refl

nothing_either_way : (b : Bool) (rest : Kinds) → or_else (cond (b || false) [] []) rest ≡ rest
nothing_either_way true rest = refl
nothing_either_way false rest = refl

no_defaults : (rows : List Row) → defaults_fault rows rules ≡ []
unfolding defaults_fault
no_defaults rows =
    let two = with_default rows (rule workers) in
    let three = with_default two (rule generate) in
    let four = with_default three flag in
    let at_help = or_else (cond (has_row (codes "help") four || true) [] (kind.DisplayHelp ∷ [])) [] in
    let at_flag = or_else (cond (has_row (codes "sessions") three || false) [] []) at_help in
    let at_generate = or_else (cond (has_row (codes "gen") two || true) [] []) at_flag in
    nothing_before (has_row (codes "workers") rows) [] at_generate
    ∙ (nothing_before (has_row (codes "gen") two) [] at_flag
    ∙ (nothing_either_way (has_row (codes "sessions") three) at_help
    ∙ nothing_before (has_row (codes "help") four) (kind.DisplayHelp ∷ []) []))

pub end_is : (h : Held) → settle_fault rules false h ≡ [] → end_fault h ≡ []
end_is h e = rw (e, no_defaults (settled rules h).rows) refl

-- ---- states between two words

abbrev pub state : Waiting → Held → Walk
state w h = record (walk_from h) { waiting = w }

-- `--` has come
abbrev pub behind : Waiting → Held → Walk
behind w h = record (state w h) { is_trailing = true }

-- an option has come, and its value hasn't
abbrev pub asking : Name → Held → Held
asking o h = record (settled rules h) { pending = Some (title o, []) }

-- and its value has
abbrev pub answered : Name → Text → Held → Held
answered o v h = record (settled rules h) { pending = Some (title o, v ∷ []) }

-- the use has come in one word
abbrev pub joined : Use → Held → Held
joined u h = reacted rules (rule_of u) (values u) h

no_subcommand : (w : Waiting) (word : Text) → subcommand_met [] w word ≡ None
no_subcommand idle word = refl
no_subcommand (option id) word = refl
no_subcommand positional word = refl

abbrev pub met : Waiting → Text → Option (Text × Option Text) → Held → Held × Rattle.clap.specs.Walk.Step
met w word x h = long_or_other rules w word x h

pub turn_is : (w : Waiting) (word : Text) (h : Held) → bytes_eq word dashes ≡ false → turn_fault shape [] (state w h) word
    ≡ or_else (flag_word_fault rules false (long_of word) word h) (step_fault shape 1 (met w word (long_of word) h).0 (met w word (long_of word) h).1)
turn_is w word h e = rw (no_subcommand w word, e) refl

pub walked_is : (w : Waiting) (word : Text) (h : Held) → bytes_eq word dashes ≡ false → walked rules [] (state w h) word
    ≡ after_step rules word (state w h) (met w word (long_of word) h).0 (met w word (long_of word) h).1
unfolding walked
walked_is w word h e = rw (no_subcommand w word, e) refl

pub turn_dashes : (w : Waiting) (h : Held) → turn_fault shape [] (state w h) dashes ≡ []
turn_dashes w h = rw (no_subcommand w dashes) refl

pub walked_dashes : (w : Waiting) (h : Held) → walked rules [] (state w h) dashes ≡ behind w h
unfolding walked
walked_dashes w h = rw (no_subcommand w dashes) refl

-- behind `--` no word may come
pub behind_fault : (w : Waiting) (h : Held) (words : List Text) → rest_fault (behind w h) words ≡ []
    → (words ≡ []) × (settle_fault rules false h ≡ [])
behind_fault w h [] e = (
  refl,
  (none_before (settle_fault rules false h) (or_else (defaults_fault (settled rules h).rows rules) (check_fault shape (finished rules h) false))
      (rw (rest_none (behind w h)) at e)).0,
)
behind_fault w h (word ∷ words) e =
    let stray : turn_fault shape [] (behind w h) word ≡ [] =
    (none_before (turn_fault shape [] (behind w h) word) (rest_fault (walked rules [] (behind w h) word) words)
    (rw (rest_more (behind w h) word words) at e)).0 in
    let bad : kind.UnknownArgument ∷ [] ≡ [] = stray in cc

-- ---- what a flag word does

-- what has this long name: an option, the flag, help or nothing
pub data LongName (name : Text) : Type 0 where
  an_option : (o : Name) → name ≡ title o → arg_by_long rules name ≡ Some (rule o) → LongName name
  the_flag : name ≡ codes "sessions" → arg_by_long rules name ≡ Some flag → LongName name
  the_help : arg_by_long rules name ≡ Some help → LongName name
  unknown : arg_by_long rules name ≡ None → LongName name

pub found_long : (name : Text) → LongName name
found_long name =
    at (bytes_eq (codes "workers") name) (bytes_eq (codes "gen") name) (bytes_eq (codes "sessions") name) (bytes_eq (codes "help") name)
    refl refl refl refl
  where
    at : (a b c d : Bool) → bytes_eq (codes "workers") name ≡ a → bytes_eq (codes "gen") name ≡ b → bytes_eq (codes "sessions") name ≡ c
        → bytes_eq (codes "help") name ≡ d → LongName name
    at true b c d e f g h = an_option workers (sym ((bytes_eq-Decides (codes "workers") name).0 e)) (rw e refl)
    at false true c d e f g h = an_option generate (sym ((bytes_eq-Decides (codes "gen") name).0 f)) (rw (e, f) refl)
    at false false true d e f g h = the_flag (sym ((bytes_eq-Decides (codes "sessions") name).0 g)) (rw (e, f, g) refl)
    at false false false true e f g h = the_help (rw (e, f, g, h) refl)
    at false false false false e f g h = unknown (rw (e, f, g, h) refl)

-- help is refused
pub help_refused : (v : Option Text) (h : Held) → long_fault rules false (Some help) v h ≡ [] → ⊥
help_refused (Some v) h e = cc
help_refused None h e = let bad : kind.DisplayHelp ∷ [] ≡ [] = (none_before (settle_fault rules false h) (kind.DisplayHelp ∷ []) e).1 in cc

-- a bundle of short flags, of which help is the only one
short_found : (c : ℕ) → (arg_by_short rules c ≡ Some help) ⊎ (arg_by_short rules c ≡ None)
short_found c = at (104 == c) refl
  where
    at : (t : Bool) → (104 == c) ≡ t → (arg_by_short rules c ≡ Some help) ⊎ (arg_by_short rules c ≡ None)
    at true e = inl (rw e refl)
    at false e = inr (rw e refl)

short_is_refused : (found : Option Rule) → (found ≡ Some help) ⊎ (found ≡ None) → (rest : Text) (h : Held) (next : Held → Kinds)
    → short_fault rules false found rest h next ≡ [] → ⊥
short_is_refused found (inl e) rest h next none =
    let all : short_fault rules false (Some help) rest h next ≡ [] = rw e at none in
    let first : or_else (settle_fault rules false h) (kind.DisplayHelp ∷ []) ≡ [] =
    (none_before (or_else (settle_fault rules false h) (kind.DisplayHelp ∷ [])) (next (reacted rules help [] h)) all).0 in
    let bad : kind.DisplayHelp ∷ [] ≡ [] = (none_before (settle_fault rules false h) (kind.DisplayHelp ∷ []) first).1 in cc
short_is_refused found (inr e) rest h next none = let bad : kind.UnknownArgument ∷ [] ≡ [] = rw e at none in cc

no_first : (l : List ℕ) → slice_get l 0 ≡ None → l ≡ []
no_first [] e = refl
no_first (x ∷ xs) e = cc

pub bundle_refused : (word flags : Text) (h : Held) → IsUtf8 word → short_of word ≡ Some flags → h.skip ≡ 0
    → bundle_fault rules false flags h ≡ [] → ⊥
unfolding flags_fault
bundle_refused word [] h utf8 is whole none = short_some word is
bundle_refused word (x ∷ xs) h utf8 is whole none = at (slice_get (chars (x ∷ xs)) 0) refl
  where
    valid : IsUtf8 (x ∷ xs)
    valid =
        let all : IsUtf8 (45 ∷ x ∷ xs) = subst IsUtf8 (short_parts word (x ∷ xs) is) utf8 in
        IsUtf8-drop (45 ∷ x ∷ xs) 1 all (IsCharBoundary-after_ascii (45 ∷ x ∷ xs) 0 all (omega arith) (omega arith))

    at : (o : Option ℕ) → slice_get (chars (x ∷ xs)) 0 ≡ o → ⊥
    at None e = let bad : [] ≡ x ∷ xs = rw (no_first (chars (x ∷ xs)) e) at (encodes-chars (x ∷ xs) valid) in cc
    at (Some c) e = short_is_refused (arg_by_short rules c) (short_found c) (drop (length (encode_utf8 c)) (x ∷ xs)) (record h { skip = 0 })
        (λ k. flags_fault rules false (length xs) (drop (length (encode_utf8 c)) (x ∷ xs)) 0 k) (rw (whole, e) at none)

-- ---- the row that a use adds

abbrev pub found : Text → List Row → Option Row
found id rows = find (λ r. bytes_eq r.id id) rows

pub has_found : (id : Text) (rows : List Row) → has_row id rows ≡ is_some (found id rows)
has_found id [] = refl
has_found id (r ∷ rows) = at (bytes_eq r.id id) refl (has_found id rows)
  where
    at : (t : Bool) → bytes_eq r.id id ≡ t → has_row id rows ≡ is_some (found id rows) → has_row id (r ∷ rows) ≡ is_some (found id (r ∷ rows))
    at true e rest = rw e refl
    at false e rest = rw e rest

-- where no row has the id, one is added behind the others
pub added : (id : Text) (change : Row → List Row) (missing rows : List Row) → found id rows ≡ None → at_row id change missing rows ≡ rows ++ missing
added id change missing [] none = refl
added id change missing (r ∷ rows) none = at (bytes_eq r.id id) refl (added id change missing rows)
  where
    at : (t : Bool) → bytes_eq r.id id ≡ t → (found id rows ≡ None → at_row id change missing rows ≡ rows ++ missing)
        → at_row id change missing (r ∷ rows) ≡ r ∷ (rows ++ missing)
    at true e rest = let bad : Some r ≡ None = rw e at none in cc
    at false e rest = rw e (ap (λ l. r ∷ l) (rest (rw e at none)))

pub without_none : (id : Text) (rows : List Row) → found id rows ≡ None → without id rows ≡ rows
without_none id rows none = added id (λ r. []) [] rows none ∙ append-nil rows

-- a row behind the others is found where none before it has its id
pub behind_none : (id : Text) (rows : List Row) (r : Row) → found id rows ≡ None → found id (rows ++ r ∷ []) ≡ found id (r ∷ [])
behind_none id rows r none = find-append (λ x. bytes_eq x.id id) rows (r ∷ []) ∙ rw none refl

pub behind_other : (id : Text) (rows : List Row) (r : Row) → found id (r ∷ []) ≡ None → found id (rows ++ r ∷ []) ≡ found id rows
behind_other id rows r none = find-append (λ x. bytes_eq x.id id) rows (r ∷ []) ∙ (ap (option_or (found id rows)) none ∙ or_none (found id rows))
  where
    or_none : (o : Option Row) → option_or o None ≡ o
    or_none None = refl
    or_none (Some x) = refl

abbrev pub row : Use → Row
row u = record {
  id = named u;
  values = values_or_missing (rule_of u) (values u);
  count = None;
  source = Some CommandLine;
  reading = reading_by (rule_of u);
}

-- a first use makes no fault, and adds its row
pub used_first : (u : Use) (rows : List Row) → found (named u) rows ≡ None
    → (use_fault false (rule_of u) (values u) rows ≡ []) × (used (rule_of u) (values u) rows ≡ rows ++ row u ∷ [])
used_first u rows none = (fault u (has_found (named u) rows ∙ ap is_some none), is u none)
  where
    fault : (w : Use) → has_row (named w) rows ≡ false → use_fault false (rule_of w) (values w) rows ≡ []
    fault (valued workers v) has = rw has refl
    fault (valued generate v) has = rw has refl
    fault bundled has = rw has refl

    new_row : (id v : Text) (r : Row) → found id rows ≡ None
        → at_row id (more_values CommandLine (v ∷ [])) (r ∷ []) (without id rows) ≡ rows ++ r ∷ []
    new_row id v r free =
        let change = more_values CommandLine (v ∷ []) in
        ap (at_row id change (r ∷ [])) (without_none id rows free) ∙ added id change (r ∷ []) rows free

    is : (w : Use) → found (named w) rows ≡ None → used (rule_of w) (values w) rows ≡ rows ++ row w ∷ []
    is (valued workers v) free = new_row (codes "workers") v (row (valued workers v)) free
    is (valued generate v) free = new_row (codes "gen") v (row (valued generate v)) free
    is bundled free = new_row (codes "sessions") (codes "true") (row bundled) free

-- a second use is a fault
pub used_again : (u : Use) (rows : List Row) (r : Row) → found (named u) rows ≡ Some r
    → use_fault false (rule_of u) (values u) rows ≡ kind.ArgumentConflict ∷ []
used_again u rows r some = fault u (has_found (named u) rows ∙ ap is_some some)
  where
    fault : (w : Use) → has_row (named w) rows ≡ true → use_fault false (rule_of w) (values w) rows ≡ kind.ArgumentConflict ∷ []
    fault (valued workers v) has = rw has refl
    fault (valued generate v) has = rw has refl
    fault bundled has = rw has refl

-- ---- what was given

-- the values of the two options, and whether the flag has come
pub data Given : Type 0 where
  given : Option Text → Option Text → Bool → Given

abbrev pub nothing : Given
nothing = given None None false

-- one use more, of what wasn't given before
abbrev pub more : Use → Given → Option Given
more (valued workers v) (given None g s) = Some (given (Some v) g s)
more (valued generate v) (given w None s) = Some (given w (Some v) s)
more bundled (given w g false) = Some (given w g true)
more _ _ = None

-- the rows are those of what was given, in any order
abbrev pub Fits : List Row → Given → Type 0
Fits rows (given w g s) = (found (codes "workers") rows ≡ option_map (λ v. row (valued workers v)) w)
    × (found (codes "gen") rows ≡ option_map (λ v. row (valued generate v)) g)
    × (found (codes "sessions") rows ≡ (if s then Some (row bundled) else None))

pub allowed : (u : Use) (rows : List Row) (g t : Given) → Fits rows g → more u g ≡ Some t
    → (use_fault false (rule_of u) (values u) rows ≡ []) × Fits (used (rule_of u) (values u) rows) t
allowed u rows g t fits e = at u g fits e
  where
    behind_rows : (w : Use) (k : Given) → found (named w) rows ≡ None → Fits (rows ++ row w ∷ []) k → Some k ≡ Some t
        → (use_fault false (rule_of w) (values w) rows ≡ []) × Fits (used (rule_of w) (values w) rows) t
    behind_rows w k none new is =
        let first = used_first w rows none in
        (first.0, subst (λ l. Fits l t) (sym first.1) (subst (Fits (rows ++ row w ∷ [])) (ap (λ o. unwrap_or o nothing) is) new))

    at : (w : Use) (k : Given) → Fits rows k → more w k ≡ Some t
        → (use_fault false (rule_of w) (values w) rows ≡ []) × Fits (used (rule_of w) (values w) rows) t
    at (valued workers v) (given None g' s) (a, b, c) is =
        let r = row (valued workers v) in
        behind_rows (valued workers v) (given (Some v) g' s) a
        (behind_none (codes "workers") rows r a, behind_other (codes "gen") rows r refl ∙ b, behind_other (codes "sessions") rows r refl ∙ c) is
    at (valued generate v) (given w None s) (a, b, c) is =
        let r = row (valued generate v) in
        behind_rows (valued generate v) (given w (Some v) s) b
        (behind_other (codes "workers") rows r refl ∙ a, behind_none (codes "gen") rows r b, behind_other (codes "sessions") rows r refl ∙ c) is
    at bundled (given w g' false) (a, b, c) is =
        let r = row bundled in
        behind_rows bundled (given w g' true) c
        (behind_other (codes "workers") rows r refl ∙ a, behind_other (codes "gen") rows r refl ∙ b, behind_none (codes "sessions") rows r c) is
    at (valued workers v) (given (Some x) g' s) fit is = cc
    at (valued generate v) (given w (Some x) s) fit is = cc
    at bundled (given w g' true) fit is = cc

pub forbidden : (u : Use) (rows : List Row) (g : Given) → Fits rows g → more u g ≡ None
    → use_fault false (rule_of u) (values u) rows ≡ kind.ArgumentConflict ∷ []
forbidden (valued workers v) rows (given (Some x) g s) fits e = used_again (valued workers v) rows (row (valued workers x)) fits.0
forbidden (valued generate v) rows (given w (Some x) s) fits e = used_again (valued generate v) rows (row (valued generate x)) fits.1
forbidden bundled rows (given w g true) fits e = used_again bundled rows (row bundled) fits.2
forbidden (valued workers v) rows (given None g s) fits e = cc
forbidden (valued generate v) rows (given w None s) fits e = cc
forbidden bundled rows (given w g false) fits e = cc

-- the walk holds what was given
pub record Holds (h : Held) (g : Given) : Type 0 where
  pub settles : settle_fault rules false h ≡ []
  pub fits : Fits (settled rules h).rows g
  pub whole : h.skip ≡ 0

pub holds_answered : (o : Name) (v : Text) (h : Held) (g t : Given) → Holds h g → more (valued o v) g ≡ Some t → Holds (answered o v h) t
holds_answered workers v h g t holds e =
    let next = allowed (valued workers v) (settled rules h).rows g t holds.fits e in
    record { settles = next.0; fits = next.1; whole = holds.whole }
holds_answered generate v h g t holds e =
    let next = allowed (valued generate v) (settled rules h).rows g t holds.fits e in
    record { settles = next.0; fits = next.1; whole = holds.whole }

pub holds_joined : (u : Use) (h : Held) (g t : Given) → Holds h g → more u g ≡ Some t → Holds (joined u h) t
holds_joined u h g t holds e = record {
  settles = refl;
  fits = (allowed u (settled rules h).rows g t holds.fits e).1;
  whole = holds.whole;
}

-- the option is asked for a value
pub asks : (o : Name) (h : Held) → settle_fault rules false (asking o h) ≡ kind.InvalidValue ∷ []
asks workers h = refl
asks generate h = refl

-- the option was given before
pub conflicts : (o : Name) (v : Text) (h : Held) (g : Given) → Holds h g → more (valued o v) g ≡ None
    → settle_fault rules false (answered o v h) ≡ kind.ArgumentConflict ∷ []
conflicts workers v h g holds e = forbidden (valued workers v) (settled rules h).rows g holds.fits e
conflicts generate v h g holds e = forbidden (valued generate v) (settled rules h).rows g holds.fits e
