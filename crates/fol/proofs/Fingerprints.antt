-- Equal values have equal fingerprints. So what has unequal ones doesn't tie.
use Rattle.std.proofs.Common.{◌≡◌, ℕ, Bool, true, false, ◌&&◌, ◌==◌, List, [], ◌∷◌, refl, sym, ◌∙◌, ap, arith}
use Rattle.std.proofs.lemmas.Bool.Decides.{nat_tests}
use Rattle.std.specs.Prelude.{nat_eq}
use Rattle.std.specs.declared.cmp.Ordering.{Ordering}
use Rattle.std.specs.declared.cmp.Ordering.TheVariants.{Less, Equal, Greater}
use Rattle.std.specs.Ordering.{nat_cmp, ordering_then, eq_by_cmp, is_eq}
use Rattle.std.specs.Cmp.Lexicographic.{pointwise}
use Rattle.fol.specs.declared.symbols.Sym.{Sym}
use Rattle.fol.specs.Syntax.{Term, Terms, Pred, Formula}
use Rattle.fol.specs.Order.{text_cmp, sym_cmp, term_cmp, terms_cmp, pred_cmp, formula_cmp}
use Rattle.fol.specs.Mixing.{text_fingerprint}
use Rattle.fol.specs.Facts.{term_fingerprint, terms_fingerprint, pred_fingerprint, formula_fingerprint}
use Rattle.fol.proofs.OrderTies.{text_ties, term_ties, terms_ties, pred_ties, formula_ties}

-- an order in which only equal values tie, and a number of each value
module _ {K : Type 0} (R : K → K → Ordering) (ties : (x y : K) → R x y ≡ Equal → x ≡ y) (print : K → ℕ) where
  apart_by : (x y : K) (o : Ordering) → R x y ≡ o → (print x ≡ print y → ⊥) → is_eq o ≡ false
  apart_by x y Less is unlike = refl
  apart_by x y Equal is unlike = absurd (unlike (ap print (ties x y is)))
  apart_by x y Greater is unlike = refl

  pub apart : (x y : K) (p q : ℕ) → p ≡ print x → q ≡ print y → (p ≡ q → ⊥) → eq_by_cmp R x y ≡ false
  apart x y p q p_is q_is unlike = apart_by x y (R x y) refl (λ e. unlike (p_is ∙ (e ∙ sym q_is)))

pub text_apart : (x y : List ℕ) (p q : ℕ) → p ≡ text_fingerprint x → q ≡ text_fingerprint y → (p ≡ q → ⊥) → eq_by_cmp text_cmp x y ≡ false
text_apart = apart text_cmp text_ties text_fingerprint

pub term_apart : (t u : Term) (p q : ℕ) → p ≡ term_fingerprint t → q ≡ term_fingerprint u → (p ≡ q → ⊥) → eq_by_cmp term_cmp t u ≡ false
term_apart = apart term_cmp term_ties term_fingerprint

pub terms_apart : (ts us : Terms) (p q : ℕ) → p ≡ terms_fingerprint ts → q ≡ terms_fingerprint us → (p ≡ q → ⊥) → eq_by_cmp terms_cmp ts us ≡ false
terms_apart = apart terms_cmp terms_ties terms_fingerprint

pub pred_apart : (p q : Pred) (m n : ℕ) → m ≡ pred_fingerprint p → n ≡ pred_fingerprint q → (m ≡ n → ⊥) → eq_by_cmp pred_cmp p q ≡ false
pred_apart = apart pred_cmp pred_ties pred_fingerprint

pub formula_apart : (f g : Formula) (p q : ℕ) → p ≡ formula_fingerprint f → q ≡ formula_fingerprint g → (p ≡ q → ⊥) → eq_by_cmp formula_cmp f g ≡ false
formula_apart = apart formula_cmp formula_ties formula_fingerprint

-- two comparisons in a row tie where each does
eq_then : (a b : Ordering) → is_eq (ordering_then a b) ≡ (is_eq a && is_eq b)
eq_then Less b = refl
eq_then Equal b = refl
eq_then Greater b = refl

-- two numbers tie where they are equal
pub nat_equal : (m n : ℕ) → eq_by_cmp nat_cmp m n ≡ (m == n)
nat_equal m n = grind (arith, nat_tests)

-- two texts tie where they are equal byte by byte
pub text_equal : (x y : List ℕ) → eq_by_cmp text_cmp x y ≡ pointwise nat_eq x y
text_equal [] [] = refl
text_equal [] (y ∷ ys) = refl
text_equal (x ∷ xs) [] = refl
text_equal (x ∷ xs) (y ∷ ys) = eq_then (nat_cmp x y) (text_cmp xs ys) ∙ λ i. nat_equal x y i && text_equal xs ys i

-- two symbols tie where their arities and their names do
pub sym_equal : (s r : Sym) → eq_by_cmp sym_cmp s r ≡ ((s.arity == r.arity) && eq_by_cmp text_cmp s.name r.name)
sym_equal s r =
    eq_then (text_cmp s.name r.name) (nat_cmp s.arity r.arity)
    ∙ (and_swap (eq_by_cmp text_cmp s.name r.name) (eq_by_cmp nat_cmp s.arity r.arity)
    ∙ ap (λ b. b && eq_by_cmp text_cmp s.name r.name) (nat_equal s.arity r.arity))
  where
    and_swap : (a b : Bool) → (a && b) ≡ (b && a)
    and_swap true true = refl
    and_swap true false = refl
    and_swap false true = refl
    and_swap false false = refl
