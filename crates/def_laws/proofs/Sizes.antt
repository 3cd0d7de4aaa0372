-- A formula with all unfolded has no greater grade, and so no more quantifiers inside one another than the formula has nodes with its bodies.
use Rattle.std.proofs.Common.{◌≡◌, ℕ, ◌+◌, ◌≤◌, refl, ap, arith}
use Rattle.fol.specs.declared.symbols.Sym.{Sym}
use Rattle.fol.specs.Syntax.{Terms, nil, cons, Pred, pred, Body, undefined, defined, Formula, atom, top, bot, not, and, or, imp, all, ex}
use Rattle.fol.specs.Facts.{pred_size, body_size, formula_size}
use Rattle.fol.specs.Formed.{count_terms}
use Rattle.free_variables.specs.Grade.{grade_of_pred, grade_of_body, grade_of}
use Rattle.substitution.specs.Instance.{nesting}
use Rattle.substitution.specs.Unfolding.{matrix_under}
use Rattle.def_laws.specs.Flat.{lifted_terms, lifted_put, flat_atom, flat_body, flat}

grade-put : (us : Terms) (l : ℕ) (f : Formula) → grade_of (lifted_put us l f) ≡ grade_of f
grade-put us l (atom p ts) = refl
grade-put us l top = refl
grade-put us l bot = refl
grade-put us l (not f) = ap (λ n. n + 1) (grade-put us l f)
grade-put us l (and f g) = λ i. grade-put us l f i + grade-put us l g i + 1
grade-put us l (or f g) = λ i. grade-put us l f i + grade-put us l g i + 1
grade-put us l (imp f g) = λ i. grade-put us l f i + grade-put us l g i + 1
grade-put us l (all f) = ap (λ n. n + 1) (grade-put (lifted_terms 1 us) (l + 1) f)
grade-put us l (ex f) = ap (λ n. n + 1) (grade-put (lifted_terms 1 us) (l + 1) f)

grade-matrix : (ts : Terms) (f : Formula) → grade_of (matrix_under ts f) ≤ grade_of f
grade-matrix nil f = omega arith
grade-matrix (cons t ts) (all f) = omega (arith, grade-matrix ts f)
grade-matrix (cons t ts) f = omega arith

mutual
  grade-flat_atom : (p : Pred) (ts : Terms) → grade_of (flat_atom p ts) ≤ grade_of_pred p
  grade-flat_atom (pred s b) ts = grade-flat_body s b ts

  grade-flat_body : (s : Sym) (b : Body) (ts : Terms) → grade_of (flat_body s b ts) ≤ grade_of_body b
  grade-flat_body s undefined ts = omega arith
  grade-flat_body s (defined f) ts =
      omega (arith, grade-put ts (count_terms ts) (matrix_under ts (flat f)), grade-matrix ts (flat f), grade-flat f)

  pub grade-flat : (f : Formula) → grade_of (flat f) ≤ grade_of f
  grade-flat (atom p ts) = grade-flat_atom p ts
  grade-flat top = omega arith
  grade-flat bot = omega arith
  grade-flat (not f) = omega (arith, grade-flat f)
  grade-flat (and f g) = omega (arith, grade-flat f, grade-flat g)
  grade-flat (or f g) = omega (arith, grade-flat f, grade-flat g)
  grade-flat (imp f g) = omega (arith, grade-flat f, grade-flat g)
  grade-flat (all f) = omega (arith, grade-flat f)
  grade-flat (ex f) = omega (arith, grade-flat f)

nesting_within_grade : (f : Formula) → nesting f ≤ grade_of f
nesting_within_grade (atom p ts) = omega arith
nesting_within_grade top = omega arith
nesting_within_grade bot = omega arith
nesting_within_grade (not f) = omega (arith, nesting_within_grade f)
nesting_within_grade (and f g) = omega (arith, nesting_within_grade f, nesting_within_grade g)
nesting_within_grade (or f g) = omega (arith, nesting_within_grade f, nesting_within_grade g)
nesting_within_grade (imp f g) = omega (arith, nesting_within_grade f, nesting_within_grade g)
nesting_within_grade (all f) = omega (arith, nesting_within_grade f)
nesting_within_grade (ex f) = omega (arith, nesting_within_grade f)

mutual
  grade_within_pred : (p : Pred) → grade_of_pred p ≤ pred_size p + 1
  grade_within_pred (pred s b) = grade_within_body b

  grade_within_body : (b : Body) → grade_of_body b ≤ body_size b + 1
  grade_within_body undefined = omega arith
  grade_within_body (defined f) = omega (arith, grade_within f)

  pub grade_within : (f : Formula) → grade_of f ≤ formula_size f
  grade_within (atom p ts) = omega (arith, grade_within_pred p)
  grade_within top = omega arith
  grade_within bot = omega arith
  grade_within (not f) = omega (arith, grade_within f)
  grade_within (and f g) = omega (arith, grade_within f, grade_within g)
  grade_within (or f g) = omega (arith, grade_within f, grade_within g)
  grade_within (imp f g) = omega (arith, grade_within f, grade_within g)
  grade_within (all f) = omega (arith, grade_within f)
  grade_within (ex f) = omega (arith, grade_within f)

pub nesting-flat : (f : Formula) → nesting (flat f) ≤ grade_of f
nesting-flat f = omega (arith, nesting_within_grade (flat f), grade-flat f)

pub nesting-flat_within : (f : Formula) → nesting (flat f) ≤ formula_size f
nesting-flat_within f = omega (arith, nesting-flat f, grade_within f)
