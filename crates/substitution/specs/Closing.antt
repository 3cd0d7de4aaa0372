-- Several variables quantified in a formula.
--     closed_over      one quantifier after another
--     level_from, bound_each      binding of the variables all at once
--     enclosed      quantifiers put around what has been bound
use Rattle.std.specs.Prelude.{ℕ, zero, suc, ◌+◌, ◌-◌, ◌<◌, Bool, if◌then◌else◌, List, [], ◌∷◌, Option, Some, None, IfSome}
use Rattle.std.specs.Ordering.{eq_by_cmp}
use Rattle.fol.specs.declared.symbols.Var.{Var}
use Rattle.fol.specs.Syntax.{Term, free, bound, app, Terms, nil, cons, Formula, atom, top, bot, not, and, or, imp, all, ex}
use Rattle.fol.specs.Order.{var_cmp}
use Rattle.substitution.specs.Instance.{bind}

-- each variable of a list quantified by `all` or by `ex`, the first one outermost
abbrev pub closed_over : (Formula → Formula) → List Var → Formula → Formula
closed_over q [] f = f
closed_over q (v ∷ vs) f = q (bind (closed_over q vs f) v)

-- the level that a variable has already, or else l where it is the variable at this level
abbrev pub innermost : Option ℕ → Bool → ℕ → Option ℕ
innermost (Some m) same l = Some m
innermost None same l = if same then Some l else None

-- how many quantifiers stand around that of a variable, where the list is quantified with l quantifiers around it; of equal variables
-- the last one counts
abbrev pub level_from : ℕ → List Var → Var → Option ℕ
level_from l [] w = None
level_from l (v ∷ vs) w = innermost (level_from (suc l) vs w) (eq_by_cmp var_cmp v w) l

-- a variable inside k quantifiers: the index of the quantifier at its level, if it has one
abbrev pub indexed : Option ℕ → ℕ → Var → Term
indexed None k w = free w
indexed (Some l) k w = bound (k - (l + 1))

-- the variables that have a level bound at once, inside k quantifiers
abbrev mutual
  pub bound_each_term : (Var → Option ℕ) → ℕ → Term → Term
  bound_each_term levels k (free w) = indexed (levels w) k w
  bound_each_term levels k (bound i) = bound i
  bound_each_term levels k (app s ts) = app s (bound_each_terms levels k ts)

  pub bound_each_terms : (Var → Option ℕ) → ℕ → Terms → Terms
  bound_each_terms levels k nil = nil
  bound_each_terms levels k (cons t ts) = cons (bound_each_term levels k t) (bound_each_terms levels k ts)

abbrev pub bound_each : (Var → Option ℕ) → ℕ → Formula → Formula
bound_each levels k (atom s ts) = atom s (bound_each_terms levels k ts)
bound_each levels k top = top
bound_each levels k bot = bot
bound_each levels k (not f) = not (bound_each levels k f)
bound_each levels k (and f g) = and (bound_each levels k f) (bound_each levels k g)
bound_each levels k (or f g) = or (bound_each levels k f) (bound_each levels k g)
bound_each levels k (imp f g) = imp (bound_each levels k f) (bound_each levels k g)
bound_each levels k (all f) = all (bound_each levels (k + 1) f)
bound_each levels k (ex f) = ex (bound_each levels (k + 1) f)

-- n quantifiers around a formula
abbrev pub enclosed : (Formula → Formula) → ℕ → Formula → Formula
enclosed q zero f = f
enclosed q (suc n) f = q (enclosed q n f)

-- each level is below k
abbrev pub AreBelow : (Var → Option ℕ) → ℕ → Type 0
AreBelow levels k = (v : Var) → IfSome (levels v) (λ l. l < k)
