-- Pairs of numbers that are joined one after another.
--     pairs_of, IsJoined      what a decision leaves to be joined, and what it does to the classes
--     work_left      a number that each step makes smaller
--     ArePairs      the numbers of the sides of equations
use Rattle.std.specs.Prelude.{◌≡◌, ℕ, ◌+◌, ◌*◌, ◌⊎◌, List, [], ◌∷◌, length, slice_set}
use Rattle.std.specs.List.{AllZip}
use Rattle.unify_laws.specs.Equations.{Equation}
use Rattle.arena_cells.specs.Items.{Item}
use Rattle.arena_cells.specs.Standing.{HasTerm}
use Rattle.fol_unify.specs.declared.shapes.Decision.{Decision}
use Rattle.fol_unify.specs.declared.shapes.Decision.TheVariants.{Clash, FirstUnder, OtherUnder, Level, LevelOne, LevelTwo}
use Rattle.fol_unify.specs.Classes.{roots_from}
use Rattle.fol_unify.specs.Shapes.{Decomposes}

-- the pairs that become equal where what is decided does
abbrev pub pairs_of : Decision → List (ℕ × ℕ)
pairs_of Clash = []
pairs_of FirstUnder = []
pairs_of OtherUnder = []
pairs_of Level = []
pairs_of (LevelOne p) = p ∷ []
pairs_of (LevelTwo p q) = p ∷ q ∷ []

-- one of two roots leads to the other, and the pairs are left
abbrev pub IsJoined : List Item → List ℕ → List ℕ → ℕ → ℕ → List (ℕ × ℕ) → Type 0
IsJoined a ls ks m n ps = ((ks ≡ slice_set ls m n) × Decomposes a m n ps) ⊎ ((ks ≡ slice_set ls n m) × Decomposes a n m ps)

-- each step takes a pair, and leaves at most two where it joins two classes
abbrev pub work_left : List ℕ → List (ℕ × ℕ) → ℕ
work_left ls ps = 3 * roots_from 0 ls + length ps

-- the sides of the equations stand at the numbers of the pairs
abbrev pub ArePairs : List Item → List (ℕ × ℕ) → List Equation → Type 0
ArePairs a ps es = AllZip (λ (p : ℕ × ℕ) (e : Equation). HasTerm a p.0 e.0 × HasTerm a p.1 e.1) ps es
