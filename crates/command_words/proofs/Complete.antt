-- clap finds no fault in options, each at most once, with `--` behind them or nothing.
use Rattle.std.proofs.Common.{◌≡◌, ◌∙◌, List, [], ◌∷◌, Option, Some, None, false, refl, sym, ap, subst, inl, inr}
use Rattle.std.specs.Prelude.{unwrap_or}
use Rattle.clap.specs.Faults.{flag_word_fault, settle_fault, turn_fault, use_fault}
use Rattle.clap.specs.Kinds.{or_else}
use Rattle.clap.specs.Lexer.{long_of}
use Rattle.clap.specs.Walk.{Held, Text, Walk, next, idle, option, settled, walk_from, walked}
use Rattle.command_words.proofs.Walks.{Fits, Given, Holds, Name, Use, allowed, answered, asking, behind, bundled, dashed, dashes, end_is, generate, holds_answered, holds_joined, joined, last, more, nothing, one_word, rest_fault, rest_more, rest_none, rule_of, rules, shape, state, title, turn_dashes, turn_is, valued, values, walked_dashes, walked_is, workers}
use Rattle.command_words.proofs.Moves.{IsValue, MetAt, Spelled, all_more, met_value}

turn_joined : (u : Use) (h : Held) → turn_fault shape [] (walk_from h) (one_word u)
    ≡ or_else (or_else (settle_fault rules false h) (use_fault false (rule_of u) (values u) (settled rules h).rows)) []
turn_joined (valued workers v) h = refl
turn_joined (valued generate v) h = refl
turn_joined bundled h = refl

walked_joined : (u : Use) (h : Held) → walked rules [] (walk_from h) (one_word u) ≡ walk_from (joined u h)
unfolding walked
walked_joined (valued workers v) h = refl
walked_joined (valued generate v) h = refl
walked_joined bundled h = refl

turn_alone : (o : Name) (h : Held) → turn_fault shape [] (walk_from h) (dashed o) ≡ or_else (settle_fault rules false h) []
turn_alone workers h = refl
turn_alone generate h = refl

walked_alone : (o : Name) (h : Held) → walked rules [] (walk_from h) (dashed o) ≡ state (option (title o)) (asking o h)
unfolding walked
walked_alone workers h = refl
walked_alone generate h = refl

met_at : (o : Name) (v : Text) (h : Held) → IsValue v → MetAt (option (title o)) v (asking o h) ≡ (answered o v h, next idle)
met_at o v h is = rw (is.no_long, is.no_short) (met_value o v h)

no_flag_fault : (v : Text) (h : Held) → IsValue v → flag_word_fault rules false (long_of v) v h ≡ []
no_flag_fault v h is = rw (is.no_long, is.no_short) refl

turn_value : (o : Name) (v : Text) (h : Held) → IsValue v → turn_fault shape [] (state (option (title o)) (asking o h)) v ≡ []
turn_value o v h is = turn_is (option (title o)) v (asking o h) is.no_dashes ∙ rw (no_flag_fault v (asking o h) is, met_at o v h is) refl

walked_value : (o : Name) (v : Text) (h : Held) → IsValue v → walked rules [] (state (option (title o)) (asking o h)) v ≡ walk_from (answered o v h)
walked_value o v h is = walked_is (option (title o)) v (asking o h) is.no_dashes ∙ rw (met_at o v h is) refl

abbrev pub Passes : Walk → List Text → Given → Type 0
Passes w words t = (rest_fault w words ≡ []) × Fits (settled rules (last w words)).rows t

-- one word that makes no fault
pass : (w later : Walk) (word : Text) (words : List Text) (t : Given) → turn_fault shape [] w word ≡ [] → walked rules [] w word ≡ later
    → Passes later words t → Passes w (word ∷ words) t
pass w later word words t none moved passes = (
  rest_more w word words ∙ rw (none, moved) passes.0,
  subst (λ (x : Walk). Fits (settled rules (last x words)).rows t) (sym moved) passes.1,
)

-- what ends a walk with nothing left
ended : (g t : Given) (h : Held) → Holds h g → Some g ≡ Some t → Fits (settled rules h).rows t
ended g t h holds e = subst (Fits (settled rules h).rows) (ap (λ s. unwrap_or s nothing) e) holds.fits

abbrev LaterPass : List Text → Given → List Use → Type 0
LaterPass words t uses = (g : Given) (h : Held) → Holds h g → all_more uses g ≡ Some t → Passes (walk_from h) words t

-- a use in one word
joined_passes : (u : Use) (uses : List Use) (rest words : List Text) → words ≡ one_word u ∷ rest → (g t : Given) (h : Held) → Holds h g
    → all_more (u ∷ uses) g ≡ Some t → LaterPass rest t uses → Passes (walk_from h) words t
joined_passes u uses rest words is g t h holds e later = at (more u g) refl
  where
    at : (m : Option Given) → more u g ≡ m → Passes (walk_from h) words t
    at None again = let bad : None ≡ Some t = rw again at e in cc
    at (Some k) once =
        let none : turn_fault shape [] (walk_from h) (one_word u) ≡ [] =
        turn_joined u h ∙ rw (holds.settles, (allowed u (settled rules h).rows g k holds.fits once).0) refl in
        rw is (pass (walk_from h) (walk_from (joined u h)) (one_word u) rest t none (walked_joined u h)
        (later k (joined u h) (holds_joined u h g k holds once) (rw once at e)))

-- an option with its value behind it
apart_passes : (o : Name) (v : Text) (uses : List Use) (rest words : List Text) → words ≡ dashed o ∷ v ∷ rest → IsValue v
    → (g t : Given) (h : Held) → Holds h g → all_more (valued o v ∷ uses) g ≡ Some t
    → LaterPass rest t uses → Passes (walk_from h) words t
apart_passes o v uses rest words is plain g t h holds e later = at (more (valued o v) g) refl
  where
    at : (m : Option Given) → more (valued o v) g ≡ m → Passes (walk_from h) words t
    at None again = let bad : None ≡ Some t = rw again at e in cc
    at (Some k) once =
        let none : turn_fault shape [] (walk_from h) (dashed o) ≡ [] = turn_alone o h ∙ rw holds.settles refl in
        rw is (pass (walk_from h) (state (option (title o)) (asking o h)) (dashed o) (v ∷ rest) t none (walked_alone o h)
        (pass (state (option (title o)) (asking o h)) (walk_from (answered o v h)) v rest t (turn_value o v h plain) (walked_value o v h plain)
        (later k (answered o v h) (holds_answered o v h g k holds once) (rw once at e))))

pub complete : (uses : List Use) (words : List Text) → Spelled uses words → (g t : Given) (h : Held) → Holds h g
    → all_more uses g ≡ Some t → Passes (walk_from h) words t
complete [] words (inl is) g t h holds e = rw is (rest_none (walk_from h) ∙ end_is h holds.settles, ended g t h holds e)
complete [] words (inr is) g t h holds e =
    rw is (pass (walk_from h) (behind idle h) dashes [] t (turn_dashes idle h) (walked_dashes idle h)
    (rest_none (behind idle h) ∙ end_is h holds.settles, ended g t h holds e))
complete (valued o v ∷ uses) words (rest, spelled, inl (is, plain)) g t h holds e =
    apart_passes o v uses rest words is plain g t h holds e (λ u k. complete uses rest spelled u t k)
complete (valued o v ∷ uses) words (rest, spelled, inr is) g t h holds e =
    joined_passes (valued o v) uses rest words is g t h holds e (λ u k. complete uses rest spelled u t k)
complete (bundled ∷ uses) words (rest, spelled, is) g t h holds e =
    joined_passes bundled uses rest words is g t h holds e (λ u k. complete uses rest spelled u t k)
