-- A loop that reads each element of a list: what it has read, and what reading the rest gives, make what reading all gives.
use Rattle.std.proofs.Common.{◌≡◌, ℕ, ◌+◌, ◌<◌, ◌≤◌, List, [], ◌∷◌, ◌++◌, length, get_or, drop, suc, map, refl, sym, ap, ◌∙◌, append_assoc, append-nil, add-one, drop-cons, Ok, Err}
use Rattle.std.proofs.lemmas.List.{drop_all}
use Rattle.serde_json.specs.Data.{Data}
use Rattle.serde_json.specs.View.{items_of}
use Rattle.job_words.specs.declared.causes.JobCause.{JobCause}
use Rattle.job_lang.specs.declared.reading.ReadError.{ReadError}
use Rattle.job_lang.specs.declared.reading.ReadError.TheVariants.{Fault, Memory}
use Rattle.job_lang.specs.Fields.{Reading, ◌>>=◌, Fails, elements, each}

-- what was read, in front of what the rest gives
abbrev pub with_front : {A : Type 0} → List A → Reading (List A) → Reading (List A)
with_front xs r = r >>= λ rest. Ok (xs ++ rest)

with_front-more : {A : Type 0} (xs : List A) (a : A) (r : Reading (List A))
    → with_front (xs ++ a ∷ []) r ≡ with_front xs (r >>= λ rest. Ok (a ∷ rest))
with_front-more xs a (Err c) = refl
with_front-more xs a (Ok rest) = ap Ok (append_assoc xs (a ∷ []) rest)

with_front-nil : {A : Type 0} (r : Reading (List A)) → with_front [] r ≡ r
with_front-nil (Err c) = refl
with_front-nil (Ok rest) = refl

pub drop_here : {V : Type 0} (xs : List V) (i : ℕ) (x : V) → i < length xs → x ≡ get_or xs i x → drop i xs ≡ x ∷ drop (i + 1) xs
drop_here xs i x within is =
    rw add-one (drop-cons xs i x within ∙ ap (λ y. y ∷ drop (suc i) xs) (sym is))

-- reading each of `drop i xs` after `front`
abbrev pub Reads : {V A : Type 0} → (V → Data) → (ℕ → Data → Reading A) → List V → ℕ → List A → Type 0
Reads h f xs i front = with_front front (each f i (map h (drop i xs))) ≡ each f 0 (map h xs)

pub reads_start : {V A : Type 0} (h : V → Data) (f : ℕ → Data → Reading A) (xs : List V) → Reads h f xs 0 []
reads_start h f xs = with_front-nil (each f 0 (map h xs))

pub reads_more : {V A : Type 0} (h : V → Data) (f : ℕ → Data → Reading A) (xs : List V) (i : ℕ) (x : V) (front : List A) (a : A)
    → i < length xs → x ≡ get_or xs i x → f i (h x) ≡ Ok a → Reads h f xs i front → Reads h f xs (i + 1) (front ++ a ∷ [])
reads_more h f xs i x front a within is read so_far =
    rw add-one (
    let rest = each f (suc i) (map h (drop (suc i) xs)) in
    with_front-more front a rest
    ∙ ap (λ o. with_front front (o >>= λ b. rest >>= λ more. Ok (b ∷ more))) (sym read)
    ∙ ap (λ ys. with_front front (each f i (map h ys))) (sym (drop-cons xs i x within ∙ ap (λ y. y ∷ drop (suc i) xs) (sym is)))
    ∙ so_far)

-- where reading an element fails, so does reading all
pub reads_fault : {V A : Type 0} (h : V → Data) (f : ℕ → Data → Reading A) (xs : List V) (i : ℕ) (x : V) (front : List A) (c : JobCause)
    → i < length xs → x ≡ get_or xs i x → f i (h x) ≡ Err c → Reads h f xs i front → each f 0 (map h xs) ≡ Err c
reads_fault h f xs i x front c within is read so_far =
    let rest = each f (suc i) (map h (drop (suc i) xs)) in
    sym so_far
    ∙ ap (λ ys. with_front front (each f i (map h ys))) (drop-cons xs i x within ∙ ap (λ y. y ∷ drop (suc i) xs) (sym is))
    ∙ ap (λ o. with_front front (o >>= λ b. rest >>= λ more. Ok (b ∷ more))) read

pub reads_fails : {V A : Type 0} (h : V → Data) (f : ℕ → Data → Reading A) (xs : List V) (i : ℕ) (x : V) (front : List A) (error : ReadError)
    → i < length xs → x ≡ get_or xs i x → Fails error (f i (h x)) → Reads h f xs i front → Fails error (each f 0 (map h xs))
reads_fails h f xs i x front (Fault c) within is fault so_far = reads_fault h f xs i x front c within is fault so_far
reads_fails h f xs i x front Memory within is fault so_far = tt

pub reads_all : {V A : Type 0} (h : V → Data) (f : ℕ → Data → Reading A) (xs : List V) (i : ℕ) (front : List A)
    → length xs ≤ i → Reads h f xs i front → each f 0 (map h xs) ≡ Ok front
reads_all h f xs i front all so_far =
    sym so_far ∙ ap (λ ys. with_front front (each f i (map h ys))) (drop_all i xs all) ∙ ap Ok (append-nil front)

-- the items of the data of a list
pub elements-items_of : (ds : List Data) → elements (items_of ds) ≡ ds
elements-items_of [] = refl
elements-items_of (d ∷ ds) = ap (λ rest. d ∷ rest) (elements-items_of ds)
