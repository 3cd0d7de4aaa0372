-- Unifiers of atoms.
--     set_of      the formulas of a list as a set
--     MakesAll, MakesOne      a map sends several formulas to one
--     IsMostGeneral      each other map that does so is this one and then a further one
--     term_of, equations, unifier      atoms as terms, and a most general unifier of them
use Rattle.std.specs.Prelude.{◌≡◌, Bool, true, false, if◌then◌else◌, List, [], ◌∷◌, map, Option, Some, None}
use Rattle.std.specs.List.{All, list_all}
use Rattle.std.specs.Ordering.{eq_by_cmp}
use Rattle.std.specs.FinMap as fin
use Rattle.fol.specs.declared.symbols.Var.{Var}
use Rattle.fol.specs.Syntax.{Term, bound, app, pred_symbol, Formula, atom}
use Rattle.fol.specs.Order.{pred_cmp}
use Rattle.finite.specs.Finite as set
use Rattle.substitution.specs.Image.{image_term, image}
use Rattle.substitution.specs.Maps.{Map}
use Rattle.lk_rules.specs.Formulas.{FormulaSet}
use Rattle.unify_laws.specs.Equations.{Equation}
use Rattle.unify_laws.specs.Unification.{mgu}

-- the formulas of a list
abbrev pub set_of : List Formula → FormulaSet
set_of fs = set.of_list fs

-- the map sends each formula of a set to a
abbrev pub MakesAll : (Var → Option Term) → FormulaSet → Formula → Type 0
MakesAll m s a = (f : Formula) → set.has s f ≡ true → image m f ≡ a

-- the map h is m and then some other map
pub record GoesOn (m h : Var → Option Term) : Type 0 where
  pub rest : Var → Option Term
  pub is : (t : Term) → image_term rest (image_term m t) ≡ image_term h t

-- a most general unifier of the formulas of a set, which makes them all a
pub record IsMostGeneral (m : Var → Option Term) (s : FormulaSet) (a : Formula) : Type 0 where
  pub makes : MakesAll m s a
  pub general : (h : Var → Option Term) (b : Formula) → MakesAll h s b → GoesOn m h

-- the map makes the formulas of a list one
abbrev pub MakesOne : (Var → Option Term) → List Formula → Type 0
MakesOne h fs = (b : Formula) × All (λ f. image h f ≡ b) fs

-- an atom as a term: its predicate symbol, without the body, stands for a function symbol
abbrev pub term_of : Formula → Term
term_of (atom p ts) = app (pred_symbol p) ts
term_of f = bound 0

-- whether two formulas are atoms of one predicate symbol, its body included
abbrev pub same_predicate : Formula → Formula → Bool
same_predicate (atom p ts) (atom q us) = eq_by_cmp pred_cmp p q
same_predicate f g = false

-- f is to become equal to each atom of a list
abbrev pub equations : Formula → List Formula → List Equation
equations f gs = map (λ (g : Formula). (term_of f, term_of g)) gs

-- A most general unifier of the atoms of a list, where there is a unifier: they have one predicate symbol, and the first one becomes equal to
-- each other one.
abbrev pub unifier : List Formula → Option Map
unifier [] = Some fin.empty
unifier (f ∷ gs) = if list_all (same_predicate f) gs then mgu (equations f gs) else None
