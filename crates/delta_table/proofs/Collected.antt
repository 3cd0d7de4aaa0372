-- What is collected over the places of a range.
use Rattle.std.proofs.Common.{◌≡◌, ℕ, zero, suc, ◌<◌, List, [], ◌∷◌, length, get_or, arith, ◌∙◌, ap, subst}
use Rattle.std.specs.List.{AllZip, range_with_len}
use Rattle.std.proofs.lemmas.List.FromFn.{get_or-range_with_len, length-range_with_len}
use Rattle.std.proofs.lemmas.Slice.Zip.{AllZip-long}

at_each : {A B : Type 0} (R : A → B → Type 0) (xs : List A) (ys : List B) (k : ℕ) (d : A) (e : B) → AllZip R xs ys → k < length xs → R (get_or xs k d) (get_or ys k e)
at_each R [] ys k d e h l = absurd (omega arith)
at_each R (x ∷ xs) [] k d e h l = absurd h
at_each R (x ∷ xs) (y ∷ ys) zero d e h l = h.0
at_each R (x ∷ xs) (y ∷ ys) (suc k) d e h l = at_each R xs ys k d e h.1 (omega arith)

module _ {B : Type 0} (R : ℕ → B → Type 0) (n : ℕ) (xs : List ℕ) (ys : List B) (places : xs ≡ range_with_len 0 n) (h : AllZip R xs ys) where
  as_many : length xs ≡ n
  as_many = ap length places ∙ length-range_with_len 0 n

  -- as many as there are places
  pub collected_length : length ys ≡ n
  collected_length = AllZip-long R xs ys h ∙ as_many

  -- and each at its place
  pub collected_at : (k : ℕ) (e : B) → k < n → R k (get_or ys k e)
  collected_at k e l =
      let long = as_many in
      let place : get_or xs k 0 ≡ k = ap (λ zs. get_or zs k 0) places ∙ omega (arith, get_or-range_with_len 0 n k 0 l) in
      subst (λ m. R m (get_or ys k e)) place (at_each R xs ys k 0 e h (omega arith))
