-- The order of formulas and of what they are made of. It is total, and only equal values tie.
use Rattle.std.specs.Prelude.{ℕ, List}
use Rattle.std.specs.declared.cmp.Ordering.{Ordering}
use Rattle.std.specs.declared.cmp.Ordering.TheVariants.{Less, Equal, Greater}
use Rattle.std.specs.Ordering.{nat_cmp, ordering_then}
use Rattle.std.specs.Cmp.Lexicographic.{slice_cmp}
use Rattle.fol.specs.declared.symbols.Sym.{Sym}
use Rattle.fol.specs.declared.symbols.Var.{Var}
use Rattle.fol.specs.declared.symbols.Var.TheVariants.{Word, Num}
use Rattle.fol.specs.Syntax.{Term, free, bound, app, Terms, nil, cons, Pred, pred, Body, undefined, defined, Formula, atom, top, bot, not, and, or, imp, all, ex}

-- texts are ordered by their bytes from the left; a text is after each of its beginnings
abbrev pub text_cmp : List ℕ → List ℕ → Ordering
text_cmp = slice_cmp nat_cmp

-- symbols are ordered by name, and then by the number of arguments
abbrev pub sym_cmp : Sym → Sym → Ordering
sym_cmp s r = ordering_then (text_cmp s.name r.name) (nat_cmp s.arity r.arity)

-- words come before numbers; words are ordered by their bytes, and numbers by size
abbrev pub var_cmp : Var → Var → Ordering
var_cmp (Word x) (Word y) = text_cmp x y
var_cmp (Word x) (Num n) = Less
var_cmp (Num m) (Word y) = Greater
var_cmp (Num m) (Num n) = nat_cmp m n

-- the place of a term's kind among the kinds: free variables, bound ones, applications
abbrev pub term_kind : Term → ℕ
term_kind (free v) = 0
term_kind (bound i) = 1
term_kind (app s ts) = 2

-- terms are ordered by kind; bound variables by index; applications by the symbol, and then by the arguments from the left.
-- A list of terms is after each of its beginnings
abbrev mutual
  pub term_cmp : Term → Term → Ordering
  term_cmp (free v) (free w) = var_cmp v w
  term_cmp (bound i) (bound j) = nat_cmp i j
  term_cmp (app s ts) (app r us) = ordering_then (sym_cmp s r) (terms_cmp ts us)
  term_cmp t u = nat_cmp (term_kind t) (term_kind u)

  pub terms_cmp : Terms → Terms → Ordering
  terms_cmp nil nil = Equal
  terms_cmp nil (cons u us) = Less
  terms_cmp (cons t ts) nil = Greater
  terms_cmp (cons t ts) (cons u us) = ordering_then (term_cmp t u) (terms_cmp ts us)

-- the place of a formula's kind among the kinds
abbrev pub formula_kind : Formula → ℕ
formula_kind (atom s ts) = 0
formula_kind top = 1
formula_kind bot = 2
formula_kind (not f) = 3
formula_kind (and f g) = 4
formula_kind (or f g) = 5
formula_kind (imp f g) = 6
formula_kind (all f) = 7
formula_kind (ex f) = 8

-- formulas are ordered by kind, and those of one kind part by part from the left; predicate symbols by name, then by the number of
-- arguments, then by their bodies: none comes before some
abbrev mutual
  pub pred_cmp : Pred → Pred → Ordering
  pred_cmp (pred s b) (pred r c) = ordering_then (sym_cmp s r) (body_cmp b c)

  pub body_cmp : Body → Body → Ordering
  body_cmp undefined undefined = Equal
  body_cmp undefined (defined g) = Less
  body_cmp (defined f) undefined = Greater
  body_cmp (defined f) (defined g) = formula_cmp f g

  pub formula_cmp : Formula → Formula → Ordering
  formula_cmp (atom p ts) (atom q us) = ordering_then (pred_cmp p q) (terms_cmp ts us)
  formula_cmp top top = Equal
  formula_cmp bot bot = Equal
  formula_cmp (not f) (not g) = formula_cmp f g
  formula_cmp (and a b) (and c d) = ordering_then (formula_cmp a c) (formula_cmp b d)
  formula_cmp (or a b) (or c d) = ordering_then (formula_cmp a c) (formula_cmp b d)
  formula_cmp (imp a b) (imp c d) = ordering_then (formula_cmp a c) (formula_cmp b d)
  formula_cmp (all f) (all g) = formula_cmp f g
  formula_cmp (ex f) (ex g) = formula_cmp f g
  formula_cmp f g = nat_cmp (formula_kind f) (formula_kind g)
