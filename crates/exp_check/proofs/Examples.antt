-- The cycles of small relations, given by their pairs.
use Rattle.std.proofs.Common.{◌≡◌, ℕ, Bool, ◌&&◌, eqb, List, [], ◌∷◌, Some, None, refl}
use Rattle.std.specs.List.{list_any}
use Rattle.expansion_laws.specs.Cycles.{first_cycle}

abbrev among : List (ℕ × ℕ) → ℕ → ℕ → Bool
among pairs i j = list_any (λ p. eqb p.0 i && eqb p.1 j) pairs

-- none
chain : first_cycle (among ((2, 1) ∷ (1, 0) ∷ (2, 0) ∷ [])) (0 ∷ 1 ∷ 2 ∷ []) ≡ None
chain = refl

-- a member that comes before itself, and a member that lies on no cycle
loop : first_cycle (among ((0, 1) ∷ (1, 1) ∷ [])) (0 ∷ 1 ∷ []) ≡ Some (1 ∷ [])
loop = refl

-- the least member's cycle, though there is a shorter one
least_start : first_cycle (among ((0, 1) ∷ (1, 0) ∷ (2, 2) ∷ [])) (0 ∷ 1 ∷ 2 ∷ []) ≡ Some (0 ∷ 1 ∷ [])
least_start = refl

-- the shorter way, though it begins with a larger member
shorter_way : first_cycle (among ((0, 1) ∷ (1, 2) ∷ (2, 0) ∷ (0, 3) ∷ (3, 0) ∷ [])) (0 ∷ 1 ∷ 2 ∷ 3 ∷ []) ≡ Some (0 ∷ 3 ∷ [])
shorter_way = refl

-- of two ways that are as short the one with the least member
least_way : first_cycle (among ((0, 3) ∷ (3, 1) ∷ (0, 2) ∷ (2, 1) ∷ (1, 0) ∷ [])) (0 ∷ 1 ∷ 2 ∷ 3 ∷ []) ≡ Some (0 ∷ 2 ∷ 1 ∷ [])
least_way = refl
