-- Tokens that are added one after another.
use Rattle.std.proofs.Common.{◌≡◌, ℕ, ◌+◌, ◌<◌, ◌≤◌, List, [], ◌∷◌, length, get_or, drop, map, sym, ap, ◌∙◌, subst}
use Rattle.std.proofs.lemmas.List.{drop_more, drop_all}
use Rattle.json.specs.Token.{Token, end_array}
use Rattle.json.specs.Tree.{items_tokens}
use Rattle.serde_json.specs.Data.{Data}
use Rattle.serde_json.specs.View.{items_of}
use Rattle.serde_json.specs.Written.{items_outline}
use Rattle.json_text.specs.Tokens.{data_tokens, Written, Adds}
use Rattle.json_text.proofs.Adding.{adds_then}

-- the tokens of the elements of an array, with its end
abbrev pub rest_tokens : {A : Type 0} → (A → Data) → List A → List Token
rest_tokens g xs = items_tokens (items_outline (items_of (map g xs)))

-- whoever adds the elements from the one with number i on has added all of them
abbrev pub Joins : {A : Type 0} → (A → Data) → List A → ℕ → Written → Written → Type 0
Joins g xs i start now = (end : Written) → Adds now end (rest_tokens g (drop i xs)) → Adds start end (rest_tokens g xs)

pub joins_start : {A : Type 0} (g : A → Data) (xs : List A) (start : Written) → Joins g xs 0 start start
joins_start g xs start = λ end added. added

pub joins_more : {A : Type 0} (g : A → Data) (xs : List A) (i : ℕ) (x : A) (start now next : Written) → i < length xs → x ≡ get_or xs i x
    → Adds now next (data_tokens (g x)) → Joins g xs i start now → Joins g xs (i + 1) start next
joins_more g xs i x start now next within is one so_far = λ end added.
    so_far end (subst (λ ys. Adds now end (rest_tokens g ys)) (sym (drop_more xs i x within ∙ ap (λ y. y ∷ drop (i + 1) xs) (sym is))) (adds_then one added))

pub joins_end : {A : Type 0} (g : A → Data) (xs : List A) (i : ℕ) (start now end : Written) → length xs ≤ i
    → Adds now end (end_array ∷ []) → Joins g xs i start now → Adds start end (rest_tokens g xs)
joins_end g xs i start now end all ended so_far = so_far end (subst (λ ys. Adds now end (rest_tokens g ys)) (sym (drop_all i xs all)) ended)
