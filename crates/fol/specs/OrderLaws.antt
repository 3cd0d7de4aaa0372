-- The order is total. Each value has a key, a list of numbers, and the order of values is that of their keys.
use Rattle.std.specs.Prelude.{◌≡◌, ℕ, List, [], ◌∷◌, refl}
use Rattle.std.proofs.Common.{sym, ◌∙◌, ap, subst}
use Rattle.std.specs.declared.cmp.Ordering.{Ordering}
use Rattle.std.specs.declared.cmp.Ordering.TheVariants.{Less, Equal, Greater}
use Rattle.std.specs.Ordering.{nat_cmp, ordering_then}
use Rattle.std.specs.Cmp.{IsTotalOrder}
use Rattle.std.specs.Cmp.Lexicographic.{slice_cmp}
use Rattle.std.proofs.lemmas.Cmp.{nat_list_cmp_total, on_total}
use Rattle.fol.specs.declared.symbols.Sym.{Sym}
use Rattle.fol.specs.declared.symbols.Var.{Var}
use Rattle.fol.specs.declared.symbols.Var.TheVariants.{Word, Num}
use Rattle.fol.specs.Syntax.{Term, free, bound, app, Terms, nil, cons, Pred, pred, Body, undefined, defined, Formula, atom, top, bot, not, and, or, imp, all, ex}
use Rattle.fol.specs.Order.{text_cmp, sym_cmp, var_cmp, term_cmp, terms_cmp, pred_cmp, body_cmp, formula_cmp}

-- the order of lists of numbers, into which each value is put: a value's key is a list that begins with the value's own numbers
abbrev key_cmp : List ℕ → List ℕ → Ordering
key_cmp = slice_cmp nat_cmp

then_assoc : (a b c : Ordering) → ordering_then (ordering_then a b) c ≡ ordering_then a (ordering_then b c)
then_assoc Less b c = refl
then_assoc Equal b c = refl
then_assoc Greater b c = refl

then_equal : (a : Ordering) → ordering_then a Equal ≡ a
then_equal Less = refl
then_equal Equal = refl
then_equal Greater = refl

-- the keys; `rest` is the key of what is compared afterwards
abbrev text_key : List ℕ → List ℕ → List ℕ
text_key [] rest = 0 ∷ rest
text_key (x ∷ xs) rest = 1 ∷ x ∷ text_key xs rest

abbrev sym_key : Sym → List ℕ → List ℕ
sym_key s rest = text_key s.name (s.arity ∷ rest)

abbrev var_key : Var → List ℕ → List ℕ
var_key (Word x) rest = 0 ∷ text_key x rest
var_key (Num n) rest = 1 ∷ n ∷ rest

abbrev mutual
  term_key : Term → List ℕ → List ℕ
  term_key (free v) rest = 0 ∷ var_key v rest
  term_key (bound i) rest = 1 ∷ i ∷ rest
  term_key (app s ts) rest = 2 ∷ sym_key s (terms_key ts rest)

  terms_key : Terms → List ℕ → List ℕ
  terms_key nil rest = 0 ∷ rest
  terms_key (cons t ts) rest = 1 ∷ term_key t (terms_key ts rest)

abbrev mutual
  pred_key : Pred → List ℕ → List ℕ
  pred_key (pred s b) rest = sym_key s (body_key b rest)

  body_key : Body → List ℕ → List ℕ
  body_key undefined rest = 0 ∷ rest
  body_key (defined f) rest = 1 ∷ formula_key f rest

  formula_key : Formula → List ℕ → List ℕ
  formula_key (atom p ts) rest = 0 ∷ pred_key p (terms_key ts rest)
  formula_key top rest = 1 ∷ rest
  formula_key bot rest = 2 ∷ rest
  formula_key (not f) rest = 3 ∷ formula_key f rest
  formula_key (and f g) rest = 4 ∷ formula_key f (formula_key g rest)
  formula_key (or f g) rest = 5 ∷ formula_key f (formula_key g rest)
  formula_key (imp f g) rest = 6 ∷ formula_key f (formula_key g rest)
  formula_key (all f) rest = 7 ∷ formula_key f rest
  formula_key (ex f) rest = 8 ∷ formula_key f rest

-- keys are ordered as the values are, and then as the rests
text_law : (x y r s : List ℕ) → key_cmp (text_key x r) (text_key y s) ≡ ordering_then (text_cmp x y) (key_cmp r s)
text_law [] [] r s = refl
text_law [] (y ∷ ys) r s = refl
text_law (x ∷ xs) [] r s = refl
text_law (x ∷ xs) (y ∷ ys) r s =
    ap (ordering_then (nat_cmp x y)) (text_law xs ys r s) ∙ sym (then_assoc (nat_cmp x y) (text_cmp xs ys) (key_cmp r s))

sym_law : (a b : Sym) (r s : List ℕ) → key_cmp (sym_key a r) (sym_key b s) ≡ ordering_then (sym_cmp a b) (key_cmp r s)
sym_law a b r s =
    text_law a.name b.name (a.arity ∷ r) (b.arity ∷ s)
    ∙ sym (then_assoc (text_cmp a.name b.name) (nat_cmp a.arity b.arity) (key_cmp r s))

var_law : (v w : Var) (r s : List ℕ) → key_cmp (var_key v r) (var_key w s) ≡ ordering_then (var_cmp v w) (key_cmp r s)
var_law (Word x) (Word y) r s = text_law x y r s
var_law (Word x) (Num n) r s = refl
var_law (Num m) (Word y) r s = refl
var_law (Num m) (Num n) r s = refl

-- the law of two parts in a row, from the law of each
pair_law : (a b p q : Ordering) {k : Ordering} → k ≡ ordering_then a p → p ≡ ordering_then b q → k ≡ ordering_then (ordering_then a b) q
pair_law a b p q first second = first ∙ (ap (ordering_then a) second ∙ sym (then_assoc a b q))

mutual
  term_law : (t u : Term) (r s : List ℕ) → key_cmp (term_key t r) (term_key u s) ≡ ordering_then (term_cmp t u) (key_cmp r s)
  term_law (free v) (free w) r s = var_law v w r s
  term_law (bound i) (bound j) r s = refl
  term_law (app a ts) (app b us) r s = pair_law _ _ _ _ (sym_law a b (terms_key ts r) (terms_key us s)) (terms_law ts us r s)
  term_law t u r s = refl

  terms_law : (ts us : Terms) (r s : List ℕ) → key_cmp (terms_key ts r) (terms_key us s) ≡ ordering_then (terms_cmp ts us) (key_cmp r s)
  terms_law nil nil r s = refl
  terms_law nil (cons u us) r s = refl
  terms_law (cons t ts) nil r s = refl
  terms_law (cons t ts) (cons u us) r s = pair_law _ _ _ _ (term_law t u (terms_key ts r) (terms_key us s)) (terms_law ts us r s)

mutual
  pred_law : (p q : Pred) (r s : List ℕ) → key_cmp (pred_key p r) (pred_key q s) ≡ ordering_then (pred_cmp p q) (key_cmp r s)
  pred_law (pred a b) (pred c d) r s = pair_law _ _ _ _ (sym_law a c (body_key b r) (body_key d s)) (body_law b d r s)

  body_law : (b c : Body) (r s : List ℕ) → key_cmp (body_key b r) (body_key c s) ≡ ordering_then (body_cmp b c) (key_cmp r s)
  body_law undefined undefined r s = refl
  body_law undefined (defined g) r s = refl
  body_law (defined f) undefined r s = refl
  body_law (defined f) (defined g) r s = formula_law f g r s

  formula_law : (f g : Formula) (r s : List ℕ) → key_cmp (formula_key f r) (formula_key g s) ≡ ordering_then (formula_cmp f g) (key_cmp r s)
  formula_law (atom p ts) (atom q us) r s = pair_law _ _ _ _ (pred_law p q (terms_key ts r) (terms_key us s)) (terms_law ts us r s)
  formula_law top top r s = refl
  formula_law bot bot r s = refl
  formula_law (not f) (not g) r s = formula_law f g r s
  formula_law (and f g) (and h k) r s = pair_law _ _ _ _ (formula_law f h (formula_key g r) (formula_key k s)) (formula_law g k r s)
  formula_law (or f g) (or h k) r s = pair_law _ _ _ _ (formula_law f h (formula_key g r) (formula_key k s)) (formula_law g k r s)
  formula_law (imp f g) (imp h k) r s = pair_law _ _ _ _ (formula_law f h (formula_key g r) (formula_key k s)) (formula_law g k r s)
  formula_law (all f) (all g) r s = formula_law f g r s
  formula_law (ex f) (ex g) r s = formula_law f g r s
  formula_law f g r s = refl

-- an order that is that of keys is total
total_by_key : {K : Type 0} (R : K → K → Ordering) (key : K → List ℕ → List ℕ)
    → ((x y : K) (r s : List ℕ) → key_cmp (key x r) (key y s) ≡ ordering_then (R x y) (key_cmp r s)) → IsTotalOrder R
total_by_key {K} R key law =
    let P : (K → K → Ordering) → Type 0 = λ S. IsTotalOrder S in
    subst P (λ i x y. (law x y [] [] ∙ then_equal (R x y)) i) (on_total (λ x. key x []) nat_list_cmp_total)

pub text_total : IsTotalOrder text_cmp
text_total = nat_list_cmp_total

pub sym_total : IsTotalOrder sym_cmp
sym_total = total_by_key sym_cmp sym_key sym_law

pub var_total : IsTotalOrder var_cmp
var_total = total_by_key var_cmp var_key var_law

pub term_total : IsTotalOrder term_cmp
term_total = total_by_key term_cmp term_key term_law

pub terms_total : IsTotalOrder terms_cmp
terms_total = total_by_key terms_cmp terms_key terms_law

pub pred_total : IsTotalOrder pred_cmp
pred_total = total_by_key pred_cmp pred_key pred_law

pub formula_total : IsTotalOrder formula_cmp
formula_total = total_by_key formula_cmp formula_key formula_law
