-- Elements that are put at a place of a list, and one that is taken out of it.
use Rattle.std.proofs.Common.{◌≡◌, ℕ, zero, suc, ◌<◌, Bool, true, false, ◌||◌, List, [], ◌∷◌, ◌++◌, map, take, drop, length, Some, refl, sym, ap, ◌∙◌, arith}
use Rattle.std.specs.List.{All, list_any, remove, slice_get}
use Rattle.std.proofs.lemmas.List.{map-append, take-map, drop-map, take-append-drop}
use Rattle.std.proofs.lemmas.List.Elements.{All-append, All-take, All-drop}
use Rattle.std.proofs.lemmas.List.Folds.{list_any-append}
use Rattle.arena_building.specs.Putting.{put}

pub map_put : {X Y : Type 0} (f : X → Y) (l : List X) (n : ℕ) (xs : List X) → map f (put l n xs) ≡ put (map f l) n (map f xs)
map_put f l n xs =
    map-append f (take n l) (xs ++ drop n l)
    ∙ (λ i. sym (take-map f n l) i ++ map-append f xs (drop n l) i)
    ∙ ap (λ ys. take n (map f l) ++ (map f xs ++ ys)) (sym (drop-map f n l))

or_moved : (a b c : Bool) → (a || (b || c)) ≡ (b || (a || c))
or_moved true true c = refl
or_moved true false c = refl
or_moved false true c = refl
or_moved false false c = refl

-- some element passes where one that was put there does, or one of the others
pub any_put : {X : Type 0} (t : X → Bool) (l : List X) (n : ℕ) (xs : List X) → list_any t (put l n xs) ≡ (list_any t xs || list_any t l)
any_put t l n xs =
    list_any-append t (take n l) (xs ++ drop n l)
    ∙ ap (λ b. list_any t (take n l) || b) (list_any-append t xs (drop n l))
    ∙ or_moved (list_any t (take n l)) (list_any t xs) (list_any t (drop n l))
    ∙ ap (λ b. list_any t xs || b) (sym (list_any-append t (take n l) (drop n l)) ∙ ap (list_any t) (take-append-drop n l))

pub all_put : {X : Type 0} (P : X → Type 0) (l : List X) (n : ℕ) (xs : List X) → All P l → All P xs → All P (put l n xs)
all_put P l n xs h g = All-append P (take n l) (xs ++ drop n l) (All-take P n l h) (All-append P xs (drop n l) g (All-drop P n l h))

without_place : {X : Type 0} (l : List X) (n : ℕ) → remove l n ≡ take n l ++ drop (suc n) l
without_place [] zero = refl
without_place [] (suc n) = refl
without_place (x ∷ l) zero = refl
without_place (x ∷ l) (suc n) = ap (λ m. x ∷ m) (without_place l n)

pub all_removed : {X : Type 0} (P : X → Type 0) (l : List X) (n : ℕ) → All P l → All P (remove l n)
all_removed P l n h = rw (without_place l n) (All-append P (take n l) (drop (suc n) l) (All-take P n l h) (All-drop P (suc n) l h))

pub map_removed : {X Y : Type 0} (f : X → Y) (l : List X) (n : ℕ) → map f (remove l n) ≡ remove (map f l) n
map_removed f [] zero = refl
map_removed f [] (suc n) = refl
map_removed f (x ∷ l) zero = refl
map_removed f (x ∷ l) (suc n) = ap (λ m. f x ∷ m) (map_removed f l n)

-- an element that is taken out and put back
pub put_back : {X : Type 0} (l : List X) (n : ℕ) (x : X) → slice_get l n ≡ Some x → put (remove l n) n (x ∷ []) ≡ l
put_back [] n x e = cc
put_back (y ∷ l) zero x e = let same : y ≡ x = cc in ap (λ z. z ∷ l) (sym same)
put_back (y ∷ l) (suc n) x e = ap (λ m. y ∷ m) (put_back l n x e)

-- one element more behind another
pub put_behind : {X : Type 0} (l : List X) (n : ℕ) (x y : X) → n < suc (length l) → put (put l n (x ∷ [])) (suc n) (y ∷ []) ≡ put l n (x ∷ y ∷ [])
put_behind [] zero x y within = refl
put_behind [] (suc n) x y within = absurd (omega arith)
put_behind (z ∷ l) zero x y within = refl
put_behind (z ∷ l) (suc n) x y within = ap (λ m. z ∷ m) (put_behind l n x y (omega arith))
