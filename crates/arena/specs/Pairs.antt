-- Maps between numbers: rising keys, with values at the same places.
--     number_in      the value of a key
--     keys_with, values_with      the lists with one more pair, by the key's place
--     keys_kept, values_kept      the lists of the pairs that pass a test
use Rattle.std.specs.Prelude.{ℕ, Bool, cond, List, [], ◌∷◌, Option, Some, None, Result, Ok, Err, slice_set}
use Rattle.std.specs.List.{insert}
use Rattle.std.specs.Ordering.{nat_cmp, eq_by_cmp}

abbrev pub number_in : List ℕ → List ℕ → ℕ → Option ℕ
number_in [] vs n = None
number_in (k ∷ ks) [] n = None
number_in (k ∷ ks) (v ∷ vs) n = cond (eq_by_cmp nat_cmp n k) (Some v) (number_in ks vs n)

abbrev pub keys_with : ℕ → List ℕ → Result ℕ ℕ → List ℕ
keys_with k ks (Ok i) = ks
keys_with k ks (Err i) = insert ks i k

abbrev pub values_with : ℕ → List ℕ → Result ℕ ℕ → List ℕ
values_with v vs (Ok i) = slice_set vs i v
values_with v vs (Err i) = insert vs i v

abbrev pub keys_kept : (ℕ → ℕ → Bool) → List ℕ → List ℕ → List ℕ
keys_kept p [] vs = []
keys_kept p (k ∷ ks) [] = []
keys_kept p (k ∷ ks) (v ∷ vs) = cond (p k v) (k ∷ keys_kept p ks vs) (keys_kept p ks vs)

abbrev pub values_kept : (ℕ → ℕ → Bool) → List ℕ → List ℕ → List ℕ
values_kept p [] vs = []
values_kept p (k ∷ ks) [] = []
values_kept p (k ∷ ks) (v ∷ vs) = cond (p k v) (v ∷ values_kept p ks vs) (values_kept p ks vs)
