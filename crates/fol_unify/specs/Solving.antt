-- Unification of numbered terms, by classes of the numbers of terms and lists that have to become equal (Huet 1976).
--     Kind, kind_of, image_item, image_at      the kind of an item; what a map makes of it
--     Ties, Respects      a function gives the same to the numbers of a pair, and to those that lead to one another
--     AreTied, AreAlike      items with numbers of one value; parts of items that have
--     IsPair, IsUnifying      classes and pairs of numbers yet to be joined, out of equations
--     AreSolved      the roots of classes that solve equations
use Rattle.std.specs.Prelude.{◌≡◌, ◌≢◌, ℕ, ◌<◌, List, length, Option}
use Rattle.std.specs.List.{All}
use Rattle.fol.specs.declared.symbols.Var.{Var}
use Rattle.fol.specs.Syntax.{Term, free, app, Terms, cons}
use Rattle.substitution.specs.Image.{image_term, image_terms}
use Rattle.unify_laws.specs.Equations.{Equation, Unifies}
use Rattle.arena_cells.specs.Items.{Item, term, terms}
use Rattle.arena_cells.specs.Standing.{Stands, item_at, IsThere}
use Rattle.fol_unify.specs.Classes.{next}

-- a term, a list of terms, or something else
pub data Kind : Type 0 where
  a_term : Kind
  a_list : Kind
  other : Kind

abbrev pub kind_of : Item → Kind
kind_of (term t) = a_term
kind_of (terms ts) = a_list
kind_of i = other

-- what a map makes of a term or of a list of terms
abbrev pub image_item : (Var → Option Term) → Item → Item
image_item h (term t) = term (image_term h t)
image_item h (terms ts) = terms (image_terms h ts)
image_item h i = i

abbrev pub image_at : List Item → (Var → Option Term) → ℕ → Item
image_at a h n = image_item h (item_at a n)

-- a function gives the same to both numbers
abbrev pub Ties : {X : Type 0} → (ℕ → X) → ℕ × ℕ → Type 0
Ties f p = f p.0 ≡ f p.1

-- a function gives the same to each number and the next, and to the numbers of each pair
pub record Respects {X : Type 0} (f : ℕ → X) (ls : List ℕ) (ps : List (ℕ × ℕ)) : Type 0 where
  pub links : (n : ℕ) → n < length ls → f n ≡ f (next ls n)
  pub pairs : All (Ties f) ps

-- the items stand at numbers below n for which f has the same value
pub record AreTied (a : List Item) (n : ℕ) (f : ℕ → ℕ) (i j : Item) : Type 0 where
  pub one : ℕ
  pub two : ℕ
  pub one_below : one < n
  pub two_below : two < n
  pub one_stands : Stands a one i
  pub two_stands : Stands a two j
  pub tied : f one ≡ f two

-- the second item is what the first one is, but for parts that are tied; nothing is asked of a first one that is a variable
abbrev pub AreAlike : List Item → ℕ → (ℕ → ℕ) → Item → Item → Type 0
AreAlike a n f (term (free x)) j = Unit {0}
AreAlike a n f (term (app s ts)) j = (us : Terms) × ((j ≡ term (app s us)) × AreTied a n f (terms ts) (terms us))
AreAlike a n f (terms (cons t ts)) j = (u : Term) × ((us : Terms) × ((j ≡ terms (cons u us)) × (AreTied a n f (term t) (term u) × AreTied a n f (terms ts) (terms us))))
AreAlike a n f i j = j ≡ i

-- two numbers below n of terms, or of lists of terms
pub record IsPair (a : List Item) (n : ℕ) (p : ℕ × ℕ) : Type 0 where
  pub one_below : p.0 < n
  pub two_below : p.1 < n
  pub kinds : kind_of (item_at a p.0) ≡ kind_of (item_at a p.1)
  pub known : kind_of (item_at a p.0) ≢ other

-- The classes and the pairs that are yet to be joined say what the equations do: of each unifier, and of each function that
-- gives the same to numbers in one class, where the pairs are joined.
pub record IsUnifying (a : List Item) (es : List Equation) (ls : List ℕ) (ps : List (ℕ × ℕ)) : Type 0 where
  pub so_many : length ls ≡ length a
  pub within : (n : ℕ) → n < length ls → next ls n < length ls
  pub kinds : (n : ℕ) → n < length ls → kind_of (item_at a n) ≡ kind_of (item_at a (next ls n))
  pub pairs : All (IsPair a (length a)) ps
  pub sound : (h : Var → Option Term) → Unifies h es → Respects (image_at a h) ls ps
  pub alike : (f : ℕ → ℕ) → Respects f ls ps → (n : ℕ) → n < length ls → (next ls n ≡ n → ⊥) → AreAlike a (length a) f (item_at a n) (item_at a (next ls n))
  pub equal : (f : ℕ → ℕ) → Respects f ls ps → All (λ (e : Equation). AreTied a (length a) f (term e.0) (term e.1)) es

-- The roots of the classes, at the places of their numbers: each unifier makes numbers and their roots equal, those of one class
-- are alike, and the sides of each equation are in one class.
pub record AreSolved (a : List Item) (es : List Equation) (rs : List ℕ) : Type 0 where
  pub there : (n : ℕ) → n < length rs → IsThere a n
  pub within : (n : ℕ) → n < length rs → next rs n < length rs
  pub roots : (n : ℕ) → n < length rs → next rs (next rs n) ≡ next rs n
  pub kinds : (n : ℕ) → n < length rs → kind_of (item_at a n) ≡ kind_of (item_at a (next rs n))
  pub sound : (h : Var → Option Term) → Unifies h es → (n : ℕ) → n < length rs → image_at a h n ≡ image_at a h (next rs n)
  pub alike : (n : ℕ) → n < length rs → (next rs n ≡ n → ⊥) → AreAlike a (length rs) (next rs) (item_at a n) (item_at a (next rs n))
  pub equal : All (λ (e : Equation). AreTied a (length rs) (next rs) (term e.0) (term e.1)) es
