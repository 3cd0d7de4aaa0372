-- The shape of a term or of a list of terms, and what is to be done with two of them that have to become equal.
--     IsShape      the shape of what stands at a number
--     Decomposes, IsDecision      pairs of numbers that become equal where two numbers do
use Rattle.std.specs.Prelude.{◌≡◌, ℕ, ◌<◌, List, [], ◌∷◌, length, Option}
use Rattle.std.specs.List.{All}
use Rattle.fol.specs.declared.symbols.Var.{Var}
use Rattle.fol.specs.Syntax.{Term, free, bound, app, nil, cons}
use Rattle.arena_cells.specs.Items.{Item, term, terms}
use Rattle.arena_cells.specs.Standing.{item_at, symbol_at, term_at, terms_at, IsSymbolAt, IsTermAt, IsTermsAt}
use Rattle.fol_unify.specs.declared.shapes.Shape.{Shape}
use Rattle.fol_unify.specs.declared.shapes.Shape.TheVariants.{Variable, Index, Application, Empty, Front}
use Rattle.fol_unify.specs.declared.shapes.Decision.{Decision}
use Rattle.fol_unify.specs.declared.shapes.Decision.TheVariants.{Clash, FirstUnder, OtherUnder, Level, LevelOne, LevelTwo}
use Rattle.fol_unify.specs.Solving.{image_at, Ties, AreAlike, IsPair}

pub record IsApplication (a : List Item) (n s ts : ℕ) : Type 0 where
  pub item : item_at a n ≡ term (app (symbol_at a s) (terms_at a ts))
  pub symbol_there : IsSymbolAt a s
  pub arguments_there : IsTermsAt a ts
  pub below : ts < n

pub record IsFront (a : List Item) (n t ts : ℕ) : Type 0 where
  pub item : item_at a n ≡ terms (cons (term_at a t) (terms_at a ts))
  pub first_there : IsTermAt a t
  pub rest_there : IsTermsAt a ts
  pub first_below : t < n
  pub rest_below : ts < n

abbrev pub IsShape : List Item → ℕ → Shape → Type 0
IsShape a n Variable = (x : Var) × (item_at a n ≡ term (free x))
IsShape a n Index = (i : ℕ) × (item_at a n ≡ term (bound i))
IsShape a n (Application s ts) = IsApplication a n s ts
IsShape a n Empty = item_at a n ≡ terms nil
IsShape a n (Front t ts) = IsFront a n t ts

-- where m and n become equal the pairs do, and where the pairs are tied m is like n
pub record Decomposes (a : List Item) (m n : ℕ) (ps : List (ℕ × ℕ)) : Type 0 where
  pub images : (h : Var → Option Term) → image_at a h m ≡ image_at a h n → All (Ties (image_at a h)) ps
  pub alike : (f : ℕ → ℕ) → All (Ties f) ps → AreAlike a (length a) f (item_at a m) (item_at a n)
  pub pairs : All (IsPair a (length a)) ps

abbrev pub IsLevel : List Item → ℕ → ℕ → List (ℕ × ℕ) → Type 0
IsLevel a m n ps = Decomposes a m n ps × Decomposes a n m ps

-- no map makes them equal; or one is a variable; or they are alike where some pairs become equal
abbrev pub IsDecision : List Item → ℕ → ℕ → Decision → Type 0
IsDecision a m n Clash = (h : Var → Option Term) → image_at a h m ≡ image_at a h n → ⊥
IsDecision a m n FirstUnder = Decomposes a m n []
IsDecision a m n OtherUnder = Decomposes a n m []
IsDecision a m n Level = IsLevel a m n []
IsDecision a m n (LevelOne p) = IsLevel a m n (p ∷ [])
IsDecision a m n (LevelTwo p q) = IsLevel a m n (p ∷ q ∷ [])
