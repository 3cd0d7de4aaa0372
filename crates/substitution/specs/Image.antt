-- Replacing free variables by terms, all at once.
--     image_term, image      under a map, a function that has a term for some variables
--     after      two maps in a row
--     IsFormedMap      the terms of a map are well formed
use Rattle.std.specs.Prelude.{Option, Some, IfSome, unwrap_or}
use Rattle.fol.specs.declared.symbols.Var.{Var}
use Rattle.fol.specs.Syntax.{Term, free, bound, app, Terms, nil, cons, Formula, atom, top, bot, not, and, or, imp, all, ex}
use Rattle.fol.specs.Formed.{IsFormedTerm}

-- a variable without a term stays
abbrev mutual
  pub image_term : (Var → Option Term) → Term → Term
  image_term m (free v) = unwrap_or (m v) (free v)
  image_term m (bound i) = bound i
  image_term m (app s ts) = app s (image_terms m ts)

  pub image_terms : (Var → Option Term) → Terms → Terms
  image_terms m nil = nil
  image_terms m (cons t ts) = cons (image_term m t) (image_terms m ts)

abbrev pub image : (Var → Option Term) → Formula → Formula
image m (atom s ts) = atom s (image_terms m ts)
image m top = top
image m bot = bot
image m (not f) = not (image m f)
image m (and f g) = and (image m f) (image m g)
image m (or f g) = or (image m f) (image m g)
image m (imp f g) = imp (image m f) (image m g)
image m (all f) = all (image m f)
image m (ex f) = ex (image m f)

-- the map by g and then by h
abbrev pub after : (Var → Option Term) → (Var → Option Term) → Var → Option Term
after g h v = Some (image_term h (image_term g (free v)))

-- each term of the map is well formed
abbrev pub IsFormedMap : (Var → Option Term) → Type 0
IsFormedMap m = (v : Var) → IfSome (m v) IsFormedTerm
