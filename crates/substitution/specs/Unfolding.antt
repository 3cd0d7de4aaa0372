-- What an atom stands for whose predicate symbol has a body: the body with the arguments put for its leading quantifiers, the first
-- argument for the outermost one.
--     argument      the argument for an index
--     put_at      the arguments put for the innermost of the quantifiers around
--     matrix_under      the body without its leading quantifiers
--     unf      the unfolding of an atom
use Rattle.std.specs.Prelude.{ℕ, ◌+◌, ◌-◌, Bool, false, ◌==◌, if◌then◌else◌, Option, Some, None}
use Rattle.std.specs.Ordering.{eq_by_cmp}
use Rattle.fol.specs.Syntax.{Term, free, bound, app, Terms, nil, cons, pred_body, Body, undefined, defined, Formula, atom, top, bot, not, and, or, imp, all, ex}
use Rattle.fol.specs.Order.{formula_cmp}
use Rattle.fol.specs.Formed.{count_terms}

-- the argument for the index i inside l quantifiers, the outermost of which is that of the first argument; an index of none stays
abbrev pub argument : Terms → ℕ → ℕ → Term
argument nil l i = bound i
argument (cons t ts) l i = if i + 1 == l then t else argument ts (l - 1) i

-- the arguments us for the indices, inside l quantifiers. Arguments have no index, so none in them is caught by a quantifier
abbrev mutual
  pub put_term_at : Terms → ℕ → Term → Term
  put_term_at us l (free v) = free v
  put_term_at us l (bound i) = argument us l i
  put_term_at us l (app s ts) = app s (put_terms_at us l ts)

  pub put_terms_at : Terms → ℕ → Terms → Terms
  put_terms_at us l nil = nil
  put_terms_at us l (cons t ts) = cons (put_term_at us l t) (put_terms_at us l ts)

abbrev pub put_at : Terms → ℕ → Formula → Formula
put_at us l (atom p ts) = atom p (put_terms_at us l ts)
put_at us l top = top
put_at us l bot = bot
put_at us l (not f) = not (put_at us l f)
put_at us l (and f g) = and (put_at us l f) (put_at us l g)
put_at us l (or f g) = or (put_at us l f) (put_at us l g)
put_at us l (imp f g) = imp (put_at us l f) (put_at us l g)
put_at us l (all f) = all (put_at us (l + 1) f)
put_at us l (ex f) = ex (put_at us (l + 1) f)

-- a formula without its outermost universal quantifiers, one for each term of a list
abbrev pub matrix_under : Terms → Formula → Formula
matrix_under nil f = f
matrix_under (cons t ts) (all f) = matrix_under ts f
matrix_under (cons t ts) f = f

-- the unfolding of the atom of a symbol with this body, with these arguments
abbrev pub unf_body : Body → Terms → Option Formula
unf_body undefined ts = None
unf_body (defined f) ts = Some (put_at ts (count_terms ts) (matrix_under ts f))

-- the unfolding of an atom whose symbol has a body; other formulas have none
abbrev pub unf : Formula → Option Formula
unf (atom p ts) = unf_body (pred_body p) ts
unf f = None

-- whether there is a formula, and it is g
abbrev pub is_just : Option Formula → Formula → Bool
is_just None g = false
is_just (Some f) g = eq_by_cmp formula_cmp f g
