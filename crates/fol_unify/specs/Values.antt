-- The values of classes: what stands for each number of a class once parts are replaced by the values of their classes.
--     IsDone, IsPart, IsBuilt, IsValue, AreValued      the values that were made
--     item_nodes, AreAbove, AreNotBelow      classes whose values are being made have larger images than a part
--     news, MarksGrow      marks that are left, and what later marks keep
--     AllDone, IsBinding, IsSolution      all values are made; the map out of them
use Rattle.std.specs.Prelude.{◌≡◌, ◌≢◌, ℕ, ◌+◌, ◌<◌, ◌≤◌, List, [], ◌∷◌, length, Option, Some, slice_get}
use Rattle.std.specs.FinMap as fin
use Rattle.fol.specs.declared.symbols.Var.{Var}
use Rattle.fol.specs.Syntax.{Term, app, Terms, cons, term_nodes, terms_nodes}
use Rattle.substitution.specs.Maps.{Map}
use Rattle.unify_laws.specs.Equations.{Equation, Unifies}
use Rattle.arena_cells.specs.Items.{Item, term, terms}
use Rattle.arena_cells.specs.Standing.{Stands, item_at, term_at, HasVariable, IsThere}
use Rattle.fol_unify.specs.declared.values.Mark.{Mark}
use Rattle.fol_unify.specs.declared.values.Mark.TheVariants.{New, Open, Done}
use Rattle.fol_unify.specs.Classes.{next}
use Rattle.fol_unify.specs.Solving.{other, kind_of, image_at}

-- the value of the class with this root is at the number v
abbrev pub IsDone : List Mark → ℕ → ℕ → Type 0
IsDone ms r v = slice_get ms r ≡ Some (Done v)

abbrev pub IsOpen : List Mark → ℕ → Type 0
IsOpen ms r = slice_get ms r ≡ Some Open

-- the second item is the value of the class of the first one
pub record IsPart (a : List Item) (rs : List ℕ) (ms : List Mark) (i j : Item) : Type 0 where
  pub part : ℕ
  pub value : ℕ
  pub below : part < length rs
  pub stands : Stands a part i
  pub done : IsDone ms (next rs part) value
  pub there : Stands a value j

-- the second item is the first one with the values of its parts
abbrev pub IsBuilt : List Item → List ℕ → List Mark → Item → Item → Type 0
IsBuilt a rs ms (term (app s ts)) j = (us : Terms) × ((j ≡ term (app s us)) × IsPart a rs ms (terms ts) (terms us))
IsBuilt a rs ms (terms (cons t ts)) j = (u : Term) × ((us : Terms) × ((j ≡ terms (cons u us)) × (IsPart a rs ms (term t) (term u) × IsPart a rs ms (terms ts) (terms us))))
IsBuilt a rs ms i j = j ≡ i

-- the value of the class with the root r is at the number v
pub record IsValue (a : List Item) (es : List Equation) (rs : List ℕ) (ms : List Mark) (r v : ℕ) : Type 0 where
  pub there : IsThere a v
  pub built : IsBuilt a rs ms (item_at a r) (item_at a v)
  pub general : (h : Var → Option Term) → Unifies h es → image_at a h v ≡ image_at a h r

-- the values that are marked as done are those of their classes
pub record AreValued (a : List Item) (es : List Equation) (rs : List ℕ) (ms : List Mark) : Type 0 where
  pub so_many : length ms ≡ length rs
  pub each : (r v : ℕ) → IsDone ms r v → IsValue a es rs ms r v

abbrev pub item_nodes : Item → ℕ
item_nodes (term t) = term_nodes t
item_nodes (terms ts) = terms_nodes ts
item_nodes i = 0

-- each unifier makes of the open classes more than of what stands at m
abbrev pub AreAbove : List Item → List Equation → List Mark → ℕ → Type 0
AreAbove a es ms m = (q : ℕ) → IsOpen ms q → (h : Var → Option Term) → Unifies h es → item_nodes (image_at a h m) < item_nodes (image_at a h q)

-- .. and no less
abbrev pub AreNotBelow : List Item → List Equation → List Mark → ℕ → Type 0
AreNotBelow a es ms m = (q : ℕ) → IsOpen ms q → (h : Var → Option Term) → Unifies h es → item_nodes (image_at a h m) ≤ item_nodes (image_at a h q)

-- one for a class that was not looked at, and none for another
abbrev pub is_new : Mark → ℕ
is_new New = 1
is_new Open = 0
is_new (Done v) = 0

-- how many classes were not looked at
abbrev pub news : List Mark → ℕ
news [] = 0
news (m ∷ ms) = is_new m + news ms

-- what is done stays, the same classes are open, and no more are new
pub record MarksGrow (ms ns : List Mark) : Type 0 where
  pub done : (r v : ℕ) → IsDone ms r v → IsDone ns r v
  pub stay_open : (r : ℕ) → IsOpen ms r → IsOpen ns r
  pub were_open : (r : ℕ) → IsOpen ns r → IsOpen ms r
  pub fewer : news ns ≤ news ms

-- the class of each term and of each list of terms below n has its value
abbrev pub AreDone : List Item → List ℕ → List Mark → ℕ → Type 0
AreDone a rs ms n = (m : ℕ) → m < n → kind_of (item_at a m) ≢ other → (v : ℕ) × IsDone ms (next rs m) v

-- the variable at a number below n that is no root becomes the value of its class
pub record IsBinding (a : List Item) (rs : List ℕ) (ms : List Mark) (n : ℕ) (x : Var) (t : Term) : Type 0 where
  pub number : ℕ
  pub value : ℕ
  pub below : number < n
  pub stands : HasVariable a number x
  pub moved : next rs number ≢ number
  pub done : IsDone ms (next rs number) value
  pub bound : t ≡ term_at a value

-- The map has the values of the classes of the variables below n that are no roots.
pub record IsSolution (a : List Item) (rs : List ℕ) (ms : List Mark) (n : ℕ) (m : Map) : Type 0 where
  pub only : (x : Var) (t : Term) → fin.get m x ≡ Some t → IsBinding a rs ms n x t
  pub all : (x : Var) (t : Term) → IsBinding a rs ms n x t → fin.get m x ≡ Some t
