-- A list is its first element and the rest.
use Rattle.std.proofs.Common.{◌≡◌, ◌-◌, ◌≤◌, List, [], ◌∷◌, length, get_or, take, drop, ap, ◌∙◌, arith}
use Rattle.std.proofs.Math.Seq.{take-length}

rest_of : {X : Type 0} (x : X) (xs : List X) → take (length (x ∷ xs) - 1) xs ≡ xs
rest_of x xs = let same : length (x ∷ xs) - 1 ≡ length xs = omega arith in ap (λ n. take n xs) same ∙ take-length xs

pub front_rest : {X : Type 0} (xs : List X) (x : X) → 1 ≤ length xs → x ≡ get_or xs 0 x → x ∷ take (length xs - 1) (drop 1 xs) ≡ xs
front_rest [] x some is = absurd (omega (arith, some))
front_rest (y ∷ ys) x some is = λ i. is i ∷ rest_of y ys i
