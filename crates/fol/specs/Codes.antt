-- How terms, lists of terms and formulas are coded as trees of numbers, so that a proof can tell them apart. Each code has a way back.
use Rattle.std.specs.Prelude.{◌≡◌, ℕ, zero, suc, List, [], ◌∷◌, refl}
use Rattle.std.proofs.Common.{sym, ◌∙◌, ap}
use Rattle.std.specs.Coded.{Coded}
use base.Stored.{Gv, gnil, gnum, gcons, num}
use Rattle.fol.specs.declared.symbols.Sym.{Sym}
use Rattle.fol.specs.declared.symbols.Var.{Var}
use Rattle.fol.specs.declared.symbols.Var.TheVariants.{Word, Num}
use Rattle.fol.specs.Syntax.{Term, free, bound, app, Terms, nil, cons, Pred, pred, Body, undefined, defined, Formula, atom, top, bot, not, and, or, imp, all, ex}

-- a type whose code has a way back is coded
abbrev pub coded_by_back : {A : Type 0} → (code : A → Gv) → (back : Gv → A) → ((x : A) → back (code x) ≡ x) → Coded A
coded_by_back code back law = record { code = code; inj = λ x y p. sym (law x) ∙ (ap back p ∙ law y) }

-- texts
abbrev pub text_code : List ℕ → Gv
text_code [] = gnil
text_code (x ∷ xs) = gcons (gnum x) (text_code xs)

abbrev pub text_back : Gv → List ℕ
text_back gnil = []
text_back (gnum n) = []
text_back (gcons x xs) = num x ∷ text_back xs

pub text_law : (x : List ℕ) → text_back (text_code x) ≡ x
text_law [] = refl
text_law (x ∷ xs) = λ i. x ∷ text_law xs i

-- symbols: the name, then the arity
abbrev pub sym_code : Sym → Gv
sym_code s = gcons (text_code s.name) (gnum s.arity)

abbrev pub sym_back : Gv → Gv → Sym
sym_back name arity = record { name = text_back name; arity = num arity }

pub sym_law : (s : Sym) → sym_back (text_code s.name) (gnum s.arity) ≡ s
sym_law s = λ i. record { name = text_law s.name i; arity = s.arity }

-- variables: a number stands for itself
abbrev pub var_code : Var → Gv
var_code (Word x) = gcons gnil (text_code x)
var_code (Num n) = gnum n

abbrev pub var_back : Gv → Var
var_back gnil = Num 0
var_back (gnum n) = Num n
var_back (gcons k x) = Word (text_back x)

pub var_law : (v : Var) → var_back (var_code v) ≡ v
var_law (Word x) = λ i. Word (text_law x i)
var_law (Num n) = refl

-- terms: an index stands for itself, before a variable stands the empty tree, and an application begins with its symbol
abbrev mutual
  pub term_code : Term → Gv
  term_code (free v) = gcons gnil (var_code v)
  term_code (bound i) = gnum i
  term_code (app s ts) = gcons (sym_code s) (terms_code ts)

  pub terms_code : Terms → Gv
  terms_code nil = gnil
  terms_code (cons t ts) = gcons (term_code t) (terms_code ts)

abbrev mutual
  pub term_back : Gv → Term
  term_back gnil = bound 0
  term_back (gnum i) = bound i
  term_back (gcons gnil v) = free (var_back v)
  term_back (gcons (gnum n) ts) = bound 0
  term_back (gcons (gcons name arity) ts) = app (sym_back name arity) (terms_back ts)

  pub terms_back : Gv → Terms
  terms_back gnil = nil
  terms_back (gnum n) = nil
  terms_back (gcons t ts) = cons (term_back t) (terms_back ts)

mutual
  pub term_law : (t : Term) → term_back (term_code t) ≡ t
  term_law (free v) = λ i. free (var_law v i)
  term_law (bound n) = refl
  term_law (app s ts) = λ i. app (sym_law s i) (terms_law ts i)

  pub terms_law : (ts : Terms) → terms_back (terms_code ts) ≡ ts
  terms_law nil = refl
  terms_law (cons t ts) = λ i. cons (term_law t i) (terms_law ts i)

-- predicate symbols: the symbol, then the body; formulas: the number of the kind, then the parts
abbrev mutual
  pub pred_code : Pred → Gv
  pred_code (pred s b) = gcons (sym_code s) (body_code b)

  pub body_code : Body → Gv
  body_code undefined = gnil
  body_code (defined f) = gcons gnil (formula_code f)

  pub formula_code : Formula → Gv
  formula_code (atom p ts) = gcons (gnum 0) (gcons (pred_code p) (terms_code ts))
  formula_code top = gcons (gnum 1) gnil
  formula_code bot = gcons (gnum 2) gnil
  formula_code (not f) = gcons (gnum 3) (formula_code f)
  formula_code (and f g) = gcons (gnum 4) (gcons (formula_code f) (formula_code g))
  formula_code (or f g) = gcons (gnum 5) (gcons (formula_code f) (formula_code g))
  formula_code (imp f g) = gcons (gnum 6) (gcons (formula_code f) (formula_code g))
  formula_code (all f) = gcons (gnum 7) (formula_code f)
  formula_code (ex f) = gcons (gnum 8) (formula_code f)

-- the symbol of a code
abbrev pub sym_of_code : Gv → Sym
sym_of_code gnil = sym_back gnil gnil
sym_of_code (gnum n) = sym_back gnil gnil
sym_of_code (gcons name arity) = sym_back name arity

abbrev mutual
  pub pred_back : Gv → Pred
  pred_back gnil = pred (sym_back gnil gnil) undefined
  pred_back (gnum n) = pred (sym_back gnil gnil) undefined
  pred_back (gcons s b) = pred (sym_of_code s) (body_back b)

  pub body_back : Gv → Body
  body_back gnil = undefined
  body_back (gnum n) = undefined
  body_back (gcons x f) = defined (formula_back f)

  pub formula_back : Gv → Formula
  formula_back (gcons (gnum zero) (gcons p ts)) = atom (pred_back p) (terms_back ts)
  formula_back (gcons (gnum (suc zero)) gnil) = top
  formula_back (gcons (gnum (suc (suc zero))) gnil) = bot
  formula_back (gcons (gnum (suc (suc (suc zero)))) f) = not (formula_back f)
  formula_back (gcons (gnum (suc (suc (suc (suc zero))))) (gcons f g)) = and (formula_back f) (formula_back g)
  formula_back (gcons (gnum (suc (suc (suc (suc (suc zero)))))) (gcons f g)) = or (formula_back f) (formula_back g)
  formula_back (gcons (gnum (suc (suc (suc (suc (suc (suc zero))))))) (gcons f g)) = imp (formula_back f) (formula_back g)
  formula_back (gcons (gnum (suc (suc (suc (suc (suc (suc (suc zero)))))))) f) = all (formula_back f)
  formula_back (gcons (gnum (suc (suc (suc (suc (suc (suc (suc (suc zero))))))))) f) = ex (formula_back f)
  formula_back v = top

mutual
  pub pred_law : (p : Pred) → pred_back (pred_code p) ≡ p
  pred_law (pred s b) = λ i. pred (sym_law s i) (body_law b i)

  pub body_law : (b : Body) → body_back (body_code b) ≡ b
  body_law undefined = refl
  body_law (defined f) = λ i. defined (formula_law f i)

  pub formula_law : (f : Formula) → formula_back (formula_code f) ≡ f
  formula_law (atom p ts) = λ i. atom (pred_law p i) (terms_law ts i)
  formula_law top = refl
  formula_law bot = refl
  formula_law (not f) = λ i. not (formula_law f i)
  formula_law (and f g) = λ i. and (formula_law f i) (formula_law g i)
  formula_law (or f g) = λ i. or (formula_law f i) (formula_law g i)
  formula_law (imp f g) = λ i. imp (formula_law f i) (formula_law g i)
  formula_law (all f) = λ i. all (formula_law f i)
  formula_law (ex f) = λ i. ex (formula_law f i)

-- the codes
abbrev pub coded_term : Coded Term
coded_term = coded_by_back term_code term_back term_law

abbrev pub coded_terms : Coded Terms
coded_terms = coded_by_back terms_code terms_back terms_law

abbrev pub coded_pred : Coded Pred
coded_pred = coded_by_back pred_code pred_back pred_law

abbrev pub coded_formula : Coded Formula
coded_formula = coded_by_back formula_code formula_back formula_law
