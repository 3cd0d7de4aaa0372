-- Which indices are those of quantifiers around.
use Rattle.std.specs.Prelude.{◌≡◌, ℕ, ◌+◌, Bool, true, ◌&&◌, nat_lt, Option, IfSome}
use Rattle.fol.specs.declared.symbols.Var.{Var}
use Rattle.fol.specs.Syntax.{Term, free, bound, app, Terms, nil, cons, Formula, atom, top, bot, not, and, or, imp, all, ex}

-- whether each index in a term is below k
abbrev mutual
  pub is_closed_term_at : ℕ → Term → Bool
  is_closed_term_at k (free v) = true
  is_closed_term_at k (bound i) = nat_lt i k
  is_closed_term_at k (app s ts) = are_closed_terms_at k ts

  pub are_closed_terms_at : ℕ → Terms → Bool
  are_closed_terms_at k nil = true
  are_closed_terms_at k (cons t ts) = is_closed_term_at k t && are_closed_terms_at k ts

-- whether each index in a formula is below k and the number of quantifiers around it in the formula
abbrev pub is_closed_at : ℕ → Formula → Bool
is_closed_at k (atom s ts) = are_closed_terms_at k ts
is_closed_at k top = true
is_closed_at k bot = true
is_closed_at k (not f) = is_closed_at k f
is_closed_at k (and f g) = is_closed_at k f && is_closed_at k g
is_closed_at k (or f g) = is_closed_at k f && is_closed_at k g
is_closed_at k (imp f g) = is_closed_at k f && is_closed_at k g
is_closed_at k (all f) = is_closed_at (k + 1) f
is_closed_at k (ex f) = is_closed_at (k + 1) f

-- a term without an index
abbrev pub IsClosedTerm : Term → Type 0
IsClosedTerm t = is_closed_term_at 0 t ≡ true

-- each term of the map is without an index
abbrev pub IsClosedMap : (Var → Option Term) → Type 0
IsClosedMap m = (v : Var) → IfSome (m v) IsClosedTerm
