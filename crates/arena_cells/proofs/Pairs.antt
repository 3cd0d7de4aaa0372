-- Numbers of a list that are mixed in two at a time.
use Rattle.std.proofs.Common.{◌≡◌, ℕ, ◌-◌, ◌≤◌, List, [], ◌∷◌, length, take, drop, get_or, refl, ap, suc, zero, arith}
use Rattle.fol.specs.Mixing.{mixed}
use Rattle.arena_cells.specs.Keys.{paired, mixed_pairs}

taken_whole : (xs : List ℕ) (n : ℕ) → n ≡ length xs → take n xs ≡ xs
taken_whole [] zero e = refl
taken_whole [] (suc n) e = refl
taken_whole (x ∷ xs) zero e = absurd (omega (arith, e))
taken_whole (x ∷ xs) (suc n) e = ap (λ ys. x ∷ ys) (taken_whole xs n (omega (arith, e)))

-- two more numbers are mixed in
pub two_more : (p : ℕ) (xs : List ℕ) → 2 ≤ length xs → mixed_pairs (mixed p (paired (get_or xs 0 0) (get_or xs 1 0))) (take (length xs - 2) (drop 2 xs)) ≡ mixed_pairs p xs
two_more p [] h = absurd (omega (arith, h))
two_more p (x ∷ []) h = absurd (omega (arith, h))
two_more p (x ∷ y ∷ xs) h = ap (mixed_pairs (mixed p (paired x y))) (taken_whole xs (length (x ∷ y ∷ xs) - 2) (omega arith))
