-- Only equal values tie, so that `cmp` answers `Equal` and `==` answers `true` exactly for equal values.
use Rattle.std.proofs.Common.{◌≡◌, ◌↔◌, ℕ, Bool, true, IsTrue, List, [], ◌∷◌, refl, sym, ◌∙◌, ap, subst}
use Rattle.std.specs.declared.cmp.Ordering.{Ordering}
use Rattle.std.specs.declared.cmp.Ordering.TheVariants.{Less, Equal, Greater}
use Rattle.std.specs.Ordering.{nat_cmp, ordering_then, eq_by_cmp, is_eq}
use Rattle.std.specs.Cmp.{IsTotalOrder}
use Rattle.std.proofs.lemmas.Cmp.{ranked, tied_itself}
use Rattle.fol.specs.declared.symbols.Sym.{Sym}
use Rattle.fol.specs.declared.symbols.Var.{Var}
use Rattle.fol.specs.declared.symbols.Var.TheVariants.{Word, Num}
use Rattle.fol.specs.Syntax.{Term, free, bound, app, Terms, nil, cons, Pred, pred, Body, undefined, defined, Formula, atom, top, bot, not, and, or, imp, all, ex}
use Rattle.fol.specs.Order.{text_cmp, sym_cmp, var_cmp, term_cmp, terms_cmp, pred_cmp, body_cmp, formula_cmp}
use Rattle.fol.specs.OrderLaws.{text_total, sym_total, var_total, term_total, terms_total, pred_total, formula_total}

-- two comparisons in a row tie only where both do
pub then_ties : (a b : Ordering) → ordering_then a b ≡ Equal → (a ≡ Equal) × (b ≡ Equal)
then_ties Less b h = cc
then_ties Equal b h = (refl, h)
then_ties Greater b h = cc

-- only equal values tie
nat_ties : (m n : ℕ) → nat_cmp m n ≡ Equal → m ≡ n
nat_ties m n h = ranked m n Equal (sym h)

pub text_ties : (x y : List ℕ) → text_cmp x y ≡ Equal → x ≡ y
text_ties [] [] h = refl
text_ties [] (y ∷ ys) h = cc
text_ties (x ∷ xs) [] h = cc
text_ties (x ∷ xs) (y ∷ ys) h =
    let both = then_ties (nat_cmp x y) (text_cmp xs ys) h in λ i. nat_ties x y both.0 i ∷ text_ties xs ys both.1 i

pub sym_ties : (s r : Sym) → sym_cmp s r ≡ Equal → s ≡ r
sym_ties s r h =
    let both = then_ties (text_cmp s.name r.name) (nat_cmp s.arity r.arity) h in
    λ i. record { name = text_ties s.name r.name both.0 i; arity = nat_ties s.arity r.arity both.1 i }

pub var_ties : (v w : Var) → var_cmp v w ≡ Equal → v ≡ w
var_ties (Word x) (Word y) h = λ i. Word (text_ties x y h i)
var_ties (Word x) (Num n) h = cc
var_ties (Num m) (Word y) h = cc
var_ties (Num m) (Num n) h = λ i. Num (nat_ties m n h i)

mutual
  pub term_ties : (t u : Term) → term_cmp t u ≡ Equal → t ≡ u
  term_ties (free v) (free w) h = λ i. free (var_ties v w h i)
  term_ties (bound m) (bound n) h = λ i. bound (nat_ties m n h i)
  term_ties (app s ts) (app r us) h =
      let both = then_ties (sym_cmp s r) (terms_cmp ts us) h in λ i. app (sym_ties s r both.0 i) (terms_ties ts us both.1 i)
  term_ties t u h = cc

  pub terms_ties : (ts us : Terms) → terms_cmp ts us ≡ Equal → ts ≡ us
  terms_ties nil nil h = refl
  terms_ties nil (cons u us) h = cc
  terms_ties (cons t ts) nil h = cc
  terms_ties (cons t ts) (cons u us) h =
      let both = then_ties (term_cmp t u) (terms_cmp ts us) h in λ i. cons (term_ties t u both.0 i) (terms_ties ts us both.1 i)

mutual
  pub pred_ties : (p q : Pred) → pred_cmp p q ≡ Equal → p ≡ q
  pred_ties (pred s b) (pred r c) h =
      let both = then_ties (sym_cmp s r) (body_cmp b c) h in λ i. pred (sym_ties s r both.0 i) (body_ties b c both.1 i)

  pub body_ties : (b c : Body) → body_cmp b c ≡ Equal → b ≡ c
  body_ties undefined undefined h = refl
  body_ties undefined (defined g) h = cc
  body_ties (defined f) undefined h = cc
  body_ties (defined f) (defined g) h = λ i. defined (formula_ties f g h i)

  pub formula_ties : (f g : Formula) → formula_cmp f g ≡ Equal → f ≡ g
  formula_ties (atom p ts) (atom q us) h =
      let both = then_ties (pred_cmp p q) (terms_cmp ts us) h in λ i. atom (pred_ties p q both.0 i) (terms_ties ts us both.1 i)
  formula_ties top top h = refl
  formula_ties bot bot h = refl
  formula_ties (not f) (not g) h = λ i. not (formula_ties f g h i)
  formula_ties (and a b) (and c d) h =
      let both = then_ties (formula_cmp a c) (formula_cmp b d) h in λ i. and (formula_ties a c both.0 i) (formula_ties b d both.1 i)
  formula_ties (or a b) (or c d) h =
      let both = then_ties (formula_cmp a c) (formula_cmp b d) h in λ i. or (formula_ties a c both.0 i) (formula_ties b d both.1 i)
  formula_ties (imp a b) (imp c d) h =
      let both = then_ties (formula_cmp a c) (formula_cmp b d) h in λ i. imp (formula_ties a c both.0 i) (formula_ties b d both.1 i)
  formula_ties (all f) (all g) h = λ i. all (formula_ties f g h i)
  formula_ties (ex f) (ex g) h = λ i. ex (formula_ties f g h i)
  formula_ties f g h = cc

-- an order in which only equal values tie answers `Equal`, and its equality answers `true`, exactly for equal values
module _ {K : Type 0} {R : K → K → Ordering} (total : IsTotalOrder R) (ties : (x y : K) → R x y ≡ Equal → x ≡ y) where
  tie_back : (x y : K) → x ≡ y → R x y ≡ Equal
  tie_back x y e = subst (λ (z : K). R x z ≡ Equal) e (tied_itself total x)

  pub order_same : (x y : K) (r : Ordering) → r ≡ R x y → (r ≡ Equal) ↔ (x ≡ y)
  order_same x y r is = (λ h. ties x y (sym is ∙ h), λ e. is ∙ tie_back x y e)

  true_ties : (x y : K) (o : Ordering) → R x y ≡ o → is_eq o ≡ true → x ≡ y
  true_ties x y Less is h = cc
  true_ties x y Equal is h = ties x y is
  true_ties x y Greater is h = cc

  pub equality_same : (x y : K) (r : Bool) → r ≡ eq_by_cmp R x y → IsTrue r ↔ (x ≡ y)
  equality_same x y r is = (λ h. true_ties x y (R x y) refl (sym is ∙ h), λ e. is ∙ ap is_eq (tie_back x y e))

pub text_order_same : (x y : List ℕ) (r : Ordering) → r ≡ text_cmp x y → (r ≡ Equal) ↔ (x ≡ y)
text_order_same = order_same text_total text_ties

pub text_equality_same : (x y : List ℕ) (r : Bool) → r ≡ eq_by_cmp text_cmp x y → IsTrue r ↔ (x ≡ y)
text_equality_same = equality_same text_total text_ties

pub sym_order_same : (x y : Sym) (r : Ordering) → r ≡ sym_cmp x y → (r ≡ Equal) ↔ (x ≡ y)
sym_order_same = order_same sym_total sym_ties

pub sym_equality_same : (x y : Sym) (r : Bool) → r ≡ eq_by_cmp sym_cmp x y → IsTrue r ↔ (x ≡ y)
sym_equality_same = equality_same sym_total sym_ties

pub var_order_same : (x y : Var) (r : Ordering) → r ≡ var_cmp x y → (r ≡ Equal) ↔ (x ≡ y)
var_order_same = order_same var_total var_ties

pub var_equality_same : (x y : Var) (r : Bool) → r ≡ eq_by_cmp var_cmp x y → IsTrue r ↔ (x ≡ y)
var_equality_same = equality_same var_total var_ties

pub term_order_same : (x y : Term) (r : Ordering) → r ≡ term_cmp x y → (r ≡ Equal) ↔ (x ≡ y)
term_order_same = order_same term_total term_ties

pub term_equality_same : (x y : Term) (r : Bool) → r ≡ eq_by_cmp term_cmp x y → IsTrue r ↔ (x ≡ y)
term_equality_same = equality_same term_total term_ties

pub terms_order_same : (x y : Terms) (r : Ordering) → r ≡ terms_cmp x y → (r ≡ Equal) ↔ (x ≡ y)
terms_order_same = order_same terms_total terms_ties

pub terms_equality_same : (x y : Terms) (r : Bool) → r ≡ eq_by_cmp terms_cmp x y → IsTrue r ↔ (x ≡ y)
terms_equality_same = equality_same terms_total terms_ties

pub formula_order_same : (x y : Formula) (r : Ordering) → r ≡ formula_cmp x y → (r ≡ Equal) ↔ (x ≡ y)
formula_order_same = order_same formula_total formula_ties

pub formula_equality_same : (x y : Formula) (r : Bool) → r ≡ eq_by_cmp formula_cmp x y → IsTrue r ↔ (x ≡ y)
formula_equality_same = equality_same formula_total formula_ties

pub pred_order_same : (p q : Pred) (r : Ordering) → r ≡ pred_cmp p q → (r ≡ Equal) ↔ (p ≡ q)
pred_order_same = order_same pred_total pred_ties

pub pred_equality_same : (p q : Pred) (r : Bool) → r ≡ eq_by_cmp pred_cmp p q → IsTrue r ↔ (p ≡ q)
pred_equality_same = equality_same pred_total pred_ties
