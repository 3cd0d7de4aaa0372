-- The grade of a formula.
use Rattle.std.specs.Prelude.{ℕ, ◌+◌}
use Rattle.fol.specs.Syntax.{Pred, pred, Body, undefined, defined, Formula, atom, top, bot, not, and, or, imp, all, ex}

-- the number of connectives and quantifiers; an atom whose symbol has a body counts 1 and what is in the body
abbrev mutual
  pub grade_of_pred : Pred → ℕ
  grade_of_pred (pred s b) = grade_of_body b

  pub grade_of_body : Body → ℕ
  grade_of_body undefined = 0
  grade_of_body (defined f) = grade_of f + 1

  pub grade_of : Formula → ℕ
  grade_of (atom p ts) = grade_of_pred p
  grade_of top = 0
  grade_of bot = 0
  grade_of (not f) = grade_of f + 1
  grade_of (and f g) = grade_of f + grade_of g + 1
  grade_of (or f g) = grade_of f + grade_of g + 1
  grade_of (imp f g) = grade_of f + grade_of g + 1
  grade_of (all f) = grade_of f + 1
  grade_of (ex f) = grade_of f + 1
