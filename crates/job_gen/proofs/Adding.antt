-- Tokens that are added one after another.
use Rattle.std.proofs.Common.{◌≡◌, ℕ, zero, suc, arith, add-zero, add-one, ◌+◌, ◌≤◌, List, [], ◌∷◌, ◌++◌, length, take, map, refl, sym, ap, ◌∙◌, subst, append_assoc, append-nil}
use Rattle.std.specs.List.{flat_map, range_with_len}
use Rattle.std.proofs.lemmas.List.{take_all}
use Rattle.std.proofs.lemmas.List.Concat.{flat_map-append}
use Rattle.std.proofs.lemmas.List.FromFn.{map-range_with_len_more}
use Rattle.json.specs.Token.{begin_array, end_array}
use Rattle.json.specs.Tree.{items_tokens}
use Rattle.serde_json.specs.Data.{Data, array}
use Rattle.serde_json.specs.View.{items_of}
use Rattle.serde_json.specs.Written.{items_outline}
use Rattle.json_text.specs.Tokens.{data_tokens, Written, Adds}
use Rattle.json_text.proofs.Adding.{adds_then}
use Rattle.job_gen.specs.Tokens.{all_tokens}

-- the tokens of the elements of an array, and its end
items_tokens-items_of : (ds : List Data) → items_tokens (items_outline (items_of ds)) ≡ all_tokens ds ++ end_array ∷ []
items_tokens-items_of [] = refl
items_tokens-items_of (d ∷ ds) = ap (λ ts. data_tokens d ++ ts) (items_tokens-items_of ds) ∙ sym (append_assoc (data_tokens d) (all_tokens ds) (end_array ∷ []))

-- an array: its beginning, its elements and its end
pub adds_array : {old first last new : Written} (ds : List Data) → Adds old first (begin_array ∷ []) → Adds first last (all_tokens ds) → Adds last new (end_array ∷ [])
    → Adds old new (data_tokens (array (items_of ds)))
adds_array {old = old} {new = new} ds begun elements ended =
    subst (λ ts. Adds old new (begin_array ∷ ts)) (sym (items_tokens-items_of ds)) (adds_then begun (adds_then elements ended))

all_tokens_more : (ds es : List Data) → all_tokens (ds ++ es) ≡ all_tokens ds ++ all_tokens es
all_tokens_more ds es = flat_map-append data_tokens ds es

all_tokens_one : (ds : List Data) (d : Data) → all_tokens (ds ++ d ∷ []) ≡ all_tokens ds ++ data_tokens d
all_tokens_one ds d = all_tokens_more ds (d ∷ []) ∙ ap (λ ts. all_tokens ds ++ ts) (append-nil (data_tokens d))

-- some values, and then others
pub adds_more : {old mid new : Written} (ds es : List Data) → Adds old mid (all_tokens ds) → Adds mid new (all_tokens es) → Adds old new (all_tokens (ds ++ es))
adds_more {old = old} {new = new} ds es first rest = subst (λ ts. Adds old new ts) (sym (all_tokens_more ds es)) (adds_then first rest)

-- one more value
pub adds_one : {old mid new : Written} (ds : List Data) (d : Data) → Adds old mid (all_tokens ds) → Adds mid new (data_tokens d) → Adds old new (all_tokens (ds ++ d ∷ []))
adds_one {old = old} {new = new} ds d first rest = subst (λ ts. Adds old new ts) (sym (all_tokens_one ds d)) (adds_then first rest)

-- all elements of a list were added
pub adds_elements : {A : Type 0} (f : A → Data) (xs : List A) (i : ℕ) {old new : Written} → length xs ≤ i
    → Adds old new (all_tokens (map f (take i xs))) → Adds old new (all_tokens (map f xs))
adds_elements f xs i {old = old} {new = new} all so_far = subst (λ ys. Adds old new (all_tokens (map f ys))) (take_all i xs all) so_far

-- a loop over n numbers from a on, with one value for each of them
pub adds_number : (f : ℕ → Data) (a n j : ℕ) {old mid new : Written} → a + n ≡ j → Adds old mid (all_tokens (map f (range_with_len a n))) → Adds mid new (data_tokens (f j))
    → Adds old new (all_tokens (map f (range_with_len a (n + 1))))
adds_number f a n j {old = old} {new = new} is so_far one =
    subst (λ ds. Adds old new (all_tokens ds)) (sym (map-range_with_len_more f a n j is)) (adds_one (map f (range_with_len a n)) (f j) so_far one)

-- the numbers from a on, one more of them
flat_map-range_with_len : {A : Type 0} (f : ℕ → List A) (a n j : ℕ) → a + n ≡ j → flat_map f (range_with_len a (suc n)) ≡ flat_map f (range_with_len a n) ++ f j
flat_map-range_with_len f a zero j is = append-nil (f a) ∙ ap f (sym (add-zero a) ∙ is)
flat_map-range_with_len f a (suc n) j is =
    ap (λ ys. f a ++ ys) (flat_map-range_with_len f (a + 1) n j (omega (arith, is))) ∙ sym (append_assoc (f a) (flat_map f (range_with_len (a + 1) n)) (f j))

pub flat_map-range_with_len_more : {A : Type 0} (f : ℕ → List A) (a n j : ℕ) → a + n ≡ j → flat_map f (range_with_len a (n + 1)) ≡ flat_map f (range_with_len a n) ++ f j
flat_map-range_with_len_more f a n j is = rw add-one (flat_map-range_with_len f a n j is)

-- a loop over n numbers from a on, with several values for each of them
pub adds_numbers : (f : ℕ → List Data) (a n j : ℕ) {old mid new : Written} → a + n ≡ j → Adds old mid (all_tokens (flat_map f (range_with_len a n))) → Adds mid new (all_tokens (f j))
    → Adds old new (all_tokens (flat_map f (range_with_len a (n + 1))))
adds_numbers f a n j {old = old} {new = new} is so_far one =
    subst (λ ds. Adds old new (all_tokens ds)) (sym (flat_map-range_with_len_more f a n j is)) (adds_more (flat_map f (range_with_len a n)) (f j) so_far one)
