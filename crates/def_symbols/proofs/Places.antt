-- The number for an index stands at a place of the list, or there is none.
use Rattle.std.proofs.Common.{◌≡◌, ℕ, suc, ◌+◌, ◌-◌, ◌<◌, ◌≤◌, Bool, true, false, eqb, if◌then◌else◌, List, [], ◌∷◌, get_or, refl, ap, ◌∙◌, arith}
use Rattle.std.proofs.lemmas.Bool.Decides.{nat_tests}
use Rattle.def_symbols.specs.Weights.{size_for}

above_level : (i l : ℕ) → l < i + 1 → eqb (i + 1) l ≡ false
above_level i l h = grind (arith, nat_tests)

other : (b : Bool) (m n : ℕ) → b ≡ false → (if b then m else n) ≡ n
other b m n h = rw h refl

pub size_outside : (ns : List ℕ) (l i : ℕ) → l < i + 1 → size_for ns l i ≡ 1
size_outside [] l i h = refl
size_outside (n ∷ ns) l i h = other (eqb (i + 1) l) n (size_for ns (l - 1) i) (above_level i l h) ∙ size_outside ns (l - 1) i (omega arith)

equal : (m n : ℕ) → eqb m n ≡ true → m ≡ n
equal m n e = grind (arith, nat_tests)

unequal : (i l : ℕ) → eqb (i + 1) l ≡ false → i + 1 ≤ l → i + 1 ≤ l - 1
unequal i l e h = grind (arith, nat_tests)

pub size_inside : (ns : List ℕ) (l i : ℕ) → i + 1 ≤ l → size_for ns l i ≡ get_or ns (l - (i + 1)) 1
size_inside [] l i h = refl
size_inside (n ∷ ns) l i h = choice (eqb (i + 1) l) refl (λ rest. size_inside ns (l - 1) i rest)
  where
    choice : (b : Bool) → eqb (i + 1) l ≡ b → (i + 1 ≤ l - 1 → size_for ns (l - 1) i ≡ get_or ns ((l - 1) - (i + 1)) 1) → (if b then n else size_for ns (l - 1) i) ≡ get_or (n ∷ ns) (l - (i + 1)) 1
    choice true e rest =
        let same : i + 1 ≡ l = equal (i + 1) l e in
        let place : 0 ≡ l - (i + 1) = omega arith in
        ap (λ k. get_or (n ∷ ns) k 1) place
    choice false e rest =
        let more : i + 1 ≤ l - 1 = unequal i l e h in
        let place : suc ((l - 1) - (i + 1)) ≡ l - (i + 1) = omega arith in
        rest more ∙ ap (λ k. get_or (n ∷ ns) k 1) place
