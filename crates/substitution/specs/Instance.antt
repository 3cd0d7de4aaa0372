-- Putting a term for the outermost bound variable of a formula's body, and binding a variable.
--     inst, bind      at the body itself
--     inst_at, bind_at      inside k further quantifiers
--     nesting      how many quantifiers stand inside one another
--     is_open_body      whether a formula is the body of a well-formed quantified formula
use Rattle.std.specs.Prelude.{◌≡◌, ℕ, ◌+◌, Bool, true, ◌==◌, if◌then◌else◌, max}
use Rattle.std.specs.Ordering.{eq_by_cmp}
use Rattle.fol.specs.declared.symbols.Var.{Var}
use Rattle.fol.specs.Syntax.{Term, free, bound, app, Terms, nil, cons, Formula, atom, top, bot, not, and, or, imp, all, ex}
use Rattle.fol.specs.Order.{var_cmp}
use Rattle.fol.specs.Formed.{is_formed_at}

-- u for the index k
abbrev mutual
  pub inst_term_at : Term → ℕ → Term → Term
  inst_term_at u k (free v) = free v
  inst_term_at u k (bound i) = if i == k then u else bound i
  inst_term_at u k (app s ts) = app s (inst_terms_at u k ts)

  pub inst_terms_at : Term → ℕ → Terms → Terms
  inst_terms_at u k nil = nil
  inst_terms_at u k (cons t ts) = cons (inst_term_at u k t) (inst_terms_at u k ts)

abbrev pub inst_at : Term → ℕ → Formula → Formula
inst_at u k (atom s ts) = atom s (inst_terms_at u k ts)
inst_at u k top = top
inst_at u k bot = bot
inst_at u k (not f) = not (inst_at u k f)
inst_at u k (and f g) = and (inst_at u k f) (inst_at u k g)
inst_at u k (or f g) = or (inst_at u k f) (inst_at u k g)
inst_at u k (imp f g) = imp (inst_at u k f) (inst_at u k g)
inst_at u k (all f) = all (inst_at u (k + 1) f)
inst_at u k (ex f) = ex (inst_at u (k + 1) f)

-- the instance of a body: u for its outermost bound variable. u has no index, so none in it is caught by a quantifier
abbrev pub inst : Formula → Term → Formula
inst f u = inst_at u 0 f

-- the index k for the variable v
abbrev mutual
  pub bind_term_at : Var → ℕ → Term → Term
  bind_term_at v k (free w) = if eq_by_cmp var_cmp v w then bound k else free w
  bind_term_at v k (bound i) = bound i
  bind_term_at v k (app s ts) = app s (bind_terms_at v k ts)

  pub bind_terms_at : Var → ℕ → Terms → Terms
  bind_terms_at v k nil = nil
  bind_terms_at v k (cons t ts) = cons (bind_term_at v k t) (bind_terms_at v k ts)

abbrev pub bind_at : Var → ℕ → Formula → Formula
bind_at v k (atom s ts) = atom s (bind_terms_at v k ts)
bind_at v k top = top
bind_at v k bot = bot
bind_at v k (not f) = not (bind_at v k f)
bind_at v k (and f g) = and (bind_at v k f) (bind_at v k g)
bind_at v k (or f g) = or (bind_at v k f) (bind_at v k g)
bind_at v k (imp f g) = imp (bind_at v k f) (bind_at v k g)
bind_at v k (all f) = all (bind_at v (k + 1) f)
bind_at v k (ex f) = ex (bind_at v (k + 1) f)

-- the body in which v is the outermost bound variable
abbrev pub bind : Formula → Var → Formula
bind f v = bind_at v 0 f

-- whether a formula is an open body: the body of a well-formed quantified formula
abbrev pub is_open_body : Formula → Bool
is_open_body = is_formed_at 1

abbrev pub IsOpenBody : Formula → Type 0
IsOpenBody f = is_open_body f ≡ true

-- how many quantifiers stand inside one another, at most
abbrev pub nesting : Formula → ℕ
nesting (atom s ts) = 0
nesting top = 0
nesting bot = 0
nesting (not f) = nesting f
nesting (and f g) = max (nesting f) (nesting g)
nesting (or f g) = max (nesting f) (nesting g)
nesting (imp f g) = max (nesting f) (nesting g)
nesting (all f) = nesting f + 1
nesting (ex f) = nesting f + 1
