-- What a node keeps of the tree below it, so that a walk can pass over parts in which it would change and find nothing.
--     formula_size      how many nodes the tree has
--     is_open      whether a variable is free in it
--     formula_dangling      up to which index it uses quantifiers around it
--     has_body      whether a predicate symbol with a body stands in it
--     formula_fingerprint      a number of 64 bits in which unequal formulas mostly differ
use Rattle.std.specs.Prelude.{◌≡◌, ℕ, ◌+◌, ◌-◌, Bool, true, false, ◌||◌, max}
use Rattle.fol.specs.declared.facts.Facts.{Facts}
use Rattle.fol.specs.declared.symbols.Sym.{Sym}
use Rattle.fol.specs.declared.symbols.Var.{Var}
use Rattle.fol.specs.declared.symbols.Var.TheVariants.{Word, Num}
use Rattle.fol.specs.Mixing.{mixed, text_fingerprint}
use Rattle.fol.specs.Syntax.{Term, free, bound, app, Terms, nil, cons, Pred, pred, pred_body, Body, undefined, defined, is_defined, Formula, atom, top, bot, not, and, or, imp, all, ex}

-- how many nodes a term and a list of terms have as trees
abbrev mutual
  pub term_size : Term → ℕ
  term_size (free v) = 1
  term_size (bound i) = 1
  term_size (app s ts) = terms_size ts + 1

  pub terms_size : Terms → ℕ
  terms_size nil = 1
  terms_size (cons t ts) = term_size t + terms_size ts + 1

-- how many nodes a formula has as a tree: connectives, quantifiers, atoms, terms and lists of terms, and those of the bodies in it
abbrev mutual
  pub pred_size : Pred → ℕ
  pred_size (pred s b) = body_size b

  pub body_size : Body → ℕ
  body_size undefined = 0
  body_size (defined f) = formula_size f

  pub formula_size : Formula → ℕ
  formula_size (atom p ts) = terms_size ts + pred_size p + 1
  formula_size top = 1
  formula_size bot = 1
  formula_size (not f) = formula_size f + 1
  formula_size (and f g) = formula_size f + formula_size g + 1
  formula_size (or f g) = formula_size f + formula_size g + 1
  formula_size (imp f g) = formula_size f + formula_size g + 1
  formula_size (all f) = formula_size f + 1
  formula_size (ex f) = formula_size f + 1

-- whether a variable stands in a term
abbrev mutual
  pub is_term_open : Term → Bool
  is_term_open (free v) = true
  is_term_open (bound i) = false
  is_term_open (app s ts) = are_terms_open ts

  pub are_terms_open : Terms → Bool
  are_terms_open nil = false
  are_terms_open (cons t ts) = is_term_open t || are_terms_open ts

-- whether a variable is free in a formula; bodies have none
abbrev pub is_open : Formula → Bool
is_open (atom s ts) = are_terms_open ts
is_open top = false
is_open bot = false
is_open (not f) = is_open f
is_open (and f g) = is_open f || is_open g
is_open (or f g) = is_open f || is_open g
is_open (imp f g) = is_open f || is_open g
is_open (all f) = is_open f
is_open (ex f) = is_open f

-- the least number that is above each index in a term
abbrev mutual
  pub term_dangling : Term → ℕ
  term_dangling (free v) = 0
  term_dangling (bound i) = i + 1
  term_dangling (app s ts) = terms_dangling ts

  pub terms_dangling : Terms → ℕ
  terms_dangling nil = 0
  terms_dangling (cons t ts) = max (term_dangling t) (terms_dangling ts)

-- how many quantifiers around a formula its indices reach, 0 where none of them is used
abbrev pub formula_dangling : Formula → ℕ
formula_dangling (atom s ts) = terms_dangling ts
formula_dangling top = 0
formula_dangling bot = 0
formula_dangling (not f) = formula_dangling f
formula_dangling (and f g) = max (formula_dangling f) (formula_dangling g)
formula_dangling (or f g) = max (formula_dangling f) (formula_dangling g)
formula_dangling (imp f g) = max (formula_dangling f) (formula_dangling g)
formula_dangling (all f) = formula_dangling f - 1
formula_dangling (ex f) = formula_dangling f - 1

-- whether the predicate symbol of some atom has a body
abbrev pub has_body : Formula → Bool
has_body (atom p ts) = is_defined (pred_body p)
has_body top = false
has_body bot = false
has_body (not f) = has_body f
has_body (and f g) = has_body f || has_body g
has_body (or f g) = has_body f || has_body g
has_body (imp f g) = has_body f || has_body g
has_body (all f) = has_body f
has_body (ex f) = has_body f

-- fingerprints: each begins with a number of its kind, and takes in the parts in order
unfoldable pub sym_fingerprint : Sym → ℕ
sym_fingerprint s = mixed (mixed 16 (text_fingerprint s.name)) s.arity

unfoldable pub var_fingerprint : Var → ℕ
var_fingerprint (Word x) = mixed 17 (text_fingerprint x)
var_fingerprint (Num n) = mixed 18 n

unfoldable mutual
  pub term_fingerprint : Term → ℕ
  term_fingerprint (free v) = mixed 1 (var_fingerprint v)
  term_fingerprint (bound i) = mixed 2 i
  term_fingerprint (app s ts) = mixed (mixed 3 (sym_fingerprint s)) (terms_fingerprint ts)

  pub terms_fingerprint : Terms → ℕ
  terms_fingerprint nil = mixed 4 0
  terms_fingerprint (cons t ts) = mixed (mixed 5 (term_fingerprint t)) (terms_fingerprint ts)

unfoldable mutual
  pub pred_fingerprint : Pred → ℕ
  pred_fingerprint (pred s b) = body_fingerprint (sym_fingerprint s) b

  -- the number with a body in it, if there is one
  pub body_fingerprint : ℕ → Body → ℕ
  body_fingerprint h undefined = h
  body_fingerprint h (defined f) = mixed (mixed 19 h) (formula_fingerprint f)

  pub formula_fingerprint : Formula → ℕ
  formula_fingerprint (atom p ts) = mixed (mixed 6 (pred_fingerprint p)) (terms_fingerprint ts)
  formula_fingerprint top = mixed 7 0
  formula_fingerprint bot = mixed 8 0
  formula_fingerprint (not f) = mixed 9 (formula_fingerprint f)
  formula_fingerprint (and f g) = mixed (mixed 10 (formula_fingerprint f)) (formula_fingerprint g)
  formula_fingerprint (or f g) = mixed (mixed 11 (formula_fingerprint f)) (formula_fingerprint g)
  formula_fingerprint (imp f g) = mixed (mixed 12 (formula_fingerprint f)) (formula_fingerprint g)
  formula_fingerprint (all f) = mixed 13 (formula_fingerprint f)
  formula_fingerprint (ex f) = mixed 14 (formula_fingerprint f)

-- facts of this size, of this answer to whether a variable is free, of this reach, of this answer to whether a body stands there and of
-- this fingerprint
pub record AreFacts (facts : Facts) (nodes : ℕ) (free_inside : Bool) (reach : ℕ) (body_inside : Bool) (print : ℕ) : Type 0 where
  pub of_size : facts.size ≡ nodes
  pub of_free : facts.has_free ≡ free_inside
  pub of_dangling : facts.dangling ≡ reach
  pub of_body : facts.with_body ≡ body_inside
  pub of_fingerprint : facts.fingerprint ≡ print

-- the facts of a term, of a list of terms and of a formula
abbrev pub AreTermFacts : Facts → Term → Type 0
AreTermFacts c t = AreFacts c (term_size t) (is_term_open t) (term_dangling t) false (term_fingerprint t)

abbrev pub AreTermsFacts : Facts → Terms → Type 0
AreTermsFacts c ts = AreFacts c (terms_size ts) (are_terms_open ts) (terms_dangling ts) false (terms_fingerprint ts)

abbrev pub AreFormulaFacts : Facts → Formula → Type 0
AreFormulaFacts c f = AreFacts c (formula_size f) (is_open f) (formula_dangling f) (has_body f) (formula_fingerprint f)
