-- Unification: the first place where two sides differ tells which variable has to become which term (Robinson 1965, the disagreement
-- set). Each such variable is replaced in all equations, so that they have one variable less.
--     Difference, difference, first_difference      where two terms differ first, and where the sides of equations do
--     mgu_within, mgu      a most general unifier
use Rattle.std.specs.Prelude.{ℕ, zero, suc, ◌==◌, if◌then◌else◌, List, [], ◌∷◌, length, Option, Some, None, option_map}
use Rattle.std.specs.Ordering.{eq_by_cmp}
use Rattle.std.specs.FinMap as fin
use Rattle.fol.specs.declared.symbols.Var.{Var}
use Rattle.fol.specs.Syntax.{Term, free, bound, app, Terms, nil, cons}
use Rattle.fol.specs.Order.{var_cmp, sym_cmp}
use Rattle.free_variables.specs.Occurrence.{is_free_in_term}
use Rattle.substitution.specs.Image.{image_term}
use Rattle.substitution.specs.Maps.{Map}
use Rattle.unify_laws.specs.Equations.{Equation, variables_of, replaced}

-- how two terms compare
pub data Difference : Type 0 where
  -- they are the same
  same : Difference
  -- at some place they differ where no map replaces anything
  clash : Difference
  -- at the first place where they differ there is this variable in one of them, and this term in the other
  differs : Var → Term → Difference

-- the first of two differences
abbrev pub or_later : Difference → Difference → Difference
or_later same later = later
or_later clash later = clash
or_later (differs x s) later = differs x s

abbrev mutual
  pub difference : Term → Term → Difference
  difference (free x) (free y) = if eq_by_cmp var_cmp x y then same else differs x (free y)
  difference (free x) u = differs x u
  difference t (free y) = differs y t
  difference (bound i) (bound j) = if i == j then same else clash
  difference (app f ts) (app g us) = if eq_by_cmp sym_cmp f g then differences ts us else clash
  difference t u = clash

  -- of two lists: at the first terms that differ, and no map makes lists of two lengths equal
  pub differences : Terms → Terms → Difference
  differences nil nil = same
  differences (cons t ts) (cons u us) = or_later (difference t u) (differences ts us)
  differences ts us = clash

-- the first difference between the sides of some equations
abbrev pub first_difference : List Equation → Difference
first_difference [] = same
first_difference (e ∷ es) = or_later (difference e.0 e.1) (first_difference es)

-- the map that puts s for x, and then does what m does
abbrev pub bound_first : Var → Term → Map → Map
bound_first x s m = fin.insert m x (image_term (fin.get m) s)

-- The unifier by the first difference: where there is none, no variable is replaced; a variable is replaced by the term unless it stands
-- in it, since no term is a proper part of itself.
abbrev pub by_difference : (List Equation → Option Map) → List Equation → Difference → Option Map
by_difference look es same = Some fin.empty
by_difference look es clash = None
by_difference look es (differs x s) = if is_free_in_term x s then None else option_map (bound_first x s) (look (replaced x s es))

-- the unifier of equations with fewer than n variables
unfoldable pub mgu_within : ℕ → List Equation → Option Map
mgu_within zero es = None
mgu_within (suc n) es = by_difference (mgu_within n) es (first_difference es)

-- a most general unifier, where there is a unifier
unfoldable pub mgu : List Equation → Option Map
mgu es = mgu_within (suc (length (variables_of es))) es
