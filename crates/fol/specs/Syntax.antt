-- What a term, a list of terms and a formula mean: plain trees, with no word of how they are stored.
use Rattle.std.specs.Prelude.{ℕ, ◌+◌, Bool, true, false}
use Rattle.fol.specs.declared.symbols.Sym.{Sym}
use Rattle.fol.specs.declared.symbols.Var.{Var}

-- a term is a free variable, the variable of the quantifier that is `bound` quantifiers further out than the nearest one, or a
-- function symbol with its arguments
mutual
  pub data Term : Type 0 where
    free : Var → Term
    bound : ℕ → Term
    app : Sym → Terms → Term

  pub data Terms : Type 0 where
    nil : Terms
    cons : Term → Terms → Terms

-- a predicate symbol with its body, if it has one, and a formula; `all` and `ex` bind the variable that is `bound 0` just below them
mutual
  pub data Pred : Type 0 where
    pred : Sym → Body → Pred

  pub data Body : Type 0 where
    undefined : Body
    defined : Formula → Body

  pub data Formula : Type 0 where
    atom : Pred → Terms → Formula
    top : Formula
    bot : Formula
    not : Formula → Formula
    and : Formula → Formula → Formula
    or : Formula → Formula → Formula
    imp : Formula → Formula → Formula
    all : Formula → Formula
    ex : Formula → Formula

-- the predicate symbol of this name and arity that has no body
abbrev pub plain : Sym → Pred
plain s = pred s undefined

-- the name and the arity of a predicate symbol
abbrev pub pred_symbol : Pred → Sym
pred_symbol (pred s b) = s

-- the body of a predicate symbol
abbrev pub pred_body : Pred → Body
pred_body (pred s b) = b

-- whether there is a body
abbrev pub is_defined : Body → Bool
is_defined undefined = false
is_defined (defined f) = true

-- how many nodes a term has, those of its arguments included
abbrev mutual
  pub term_nodes : Term → ℕ
  term_nodes (free v) = 1
  term_nodes (bound i) = 1
  term_nodes (app s ts) = terms_nodes ts + 1

  pub terms_nodes : Terms → ℕ
  terms_nodes nil = 1
  terms_nodes (cons t ts) = term_nodes t + terms_nodes ts + 1

-- how many connectives, quantifiers and atoms a formula has, those of bodies included
abbrev mutual
  pub pred_nodes : Pred → ℕ
  pred_nodes (pred s b) = body_nodes b + 1

  pub body_nodes : Body → ℕ
  body_nodes undefined = 0
  body_nodes (defined f) = formula_nodes f

  pub formula_nodes : Formula → ℕ
  formula_nodes (atom p ts) = pred_nodes p + 1
  formula_nodes top = 1
  formula_nodes bot = 1
  formula_nodes (not f) = formula_nodes f + 1
  formula_nodes (and f g) = formula_nodes f + formula_nodes g + 1
  formula_nodes (or f g) = formula_nodes f + formula_nodes g + 1
  formula_nodes (imp f g) = formula_nodes f + formula_nodes g + 1
  formula_nodes (all f) = formula_nodes f + 1
  formula_nodes (ex f) = formula_nodes f + 1
