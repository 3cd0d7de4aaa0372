-- The bytes of a canonical text are its tokens.
use Rattle.std.proofs.Common.{◌≡◌, ℕ, ◌+◌, ◌-◌, ◌^◌, ◌<◌, ◌≤◌, Bool, true, false, ltb, ◌==◌, ◌&&◌, if◌then◌else◌, List, [], ◌∷◌, ◌++◌, codes, refl, sym, ap, subst, ◌∙◌, append_assoc, arith}
use Rattle.std.proofs.lemmas.Bool.Decides.{nat_tests}
use Rattle.std.proofs.lemmas.Bool.{and_parts, or_left, or_right, ltb-true}
use Rattle.std.specs.List.{list_all}
use Rattle.std.specs.Ordering.{eq_by_cmp}
use Rattle.std.specs.Char.{is_ascii_uppercase, is_ascii_lowercase}
use Rattle.fol.specs.declared.symbols.Sym.{Sym}
use Rattle.fol.specs.declared.symbols.Var.{Var}
use Rattle.fol.specs.declared.symbols.Var.TheVariants.{Word, Num}
use Rattle.fol.specs.Syntax.{Term, free, bound, app, Terms, nil, cons, plain, pred_symbol, Formula, atom, top, bot, not, and, or, imp, all, ex}
use Rattle.fol.specs.Order.{var_cmp}
use Rattle.fol.specs.Formed.{is_word_byte, is_name, is_formed_sym, is_formed_var, is_formed_term_at, are_formed_terms_at, is_formed_at}
use Rattle.free_variables.specs.Occurrence.{is_free_in, is_free_in_term, is_free_in_terms}
use Rattle.tptp_tokens.specs.declared.tokens.Quantifier.TheVariants.{All, Ex}
use Rattle.tptp_tokens.specs.declared.tokens.ChainOperator.{ChainOperator}
use Rattle.tptp_tokens.specs.declared.tokens.ChainOperator.TheVariants.{And, Or}
use Rattle.tptp_tokens.specs.declared.tokens.BinaryOperator.TheVariants.{Implies}
use Rattle.tptp_tokens.specs.declared.tokens.Token.{Token}
use Rattle.tptp_tokens.specs.declared.tokens.Token.TheVariants.{Name, Variable, Equality, Negation, Quantifier as Quantifies, Chain, Binary, Close, OpenSquare, CloseSquare, Colon}
use Rattle.tptp_print.specs.Canonical.{is_lower_word, quoted, name_text, numbered_text, variable_text, term_text, args_text, more_text, is_equals, is_equality, atom_text, is_binary, enclosed, unit_of, left_of_and, left_of_or, negated, head_text, formula_text, quantifier_depth}
use Rattle.tptp_round_trip.proofs.Opened.{same_number}
use Rattle.tptp_print.proofs.Agreement.{formed_application}
use Rattle.tptp_round_trip.proofs.Tokens as tokens
use Rattle.tptp_round_trip.proofs.Tokens.{term_tokens, args_tokens, more_tokens, sides_tokens, atom_tokens, unit_tokens, is_chain, left_tokens, negated_tokens, formula_tokens}
use Rattle.tptp_round_trip.proofs.Bytes.{Lexes, open_lexes, close_lexes, comma_lexes, all_lexes, ex_lexes, head_end_lexes, and_lexes, or_lexes, implies_lexes, equal_lexes, different_lexes, IsApart, negation_lexes, goes_on, numbered_lexes, variable_lexes, name_lexes, true_lexes, false_lexes}

-- a text whose first byte goes on a `~` to no other token
pub data Starts : List ℕ → Type 0 where
  starts_with : (b : ℕ) (bs : List ℕ) → (b == 124) ≡ false → (b == 38) ≡ false → Starts (b ∷ bs)

apart_of : (x rest : List ℕ) → Starts x → IsApart (x ++ rest)
apart_of x rest (starts_with b bs p q) = record { from_bar = p; from_and = q }

starts_on : (x y : List ℕ) → Starts x → Starts (x ++ y)
starts_on x y (starts_with b bs p q) = starts_with b (bs ++ y) p q

-- it is these tokens before any others that don't go on its last word
abbrev pub Lexed : List ℕ → (List Token → List Token) → Type 0
Lexed x body = (rest : List ℕ) (us : List Token) → goes_on rest ≡ false → Lexes rest us → Lexes (x ++ rest) (body us)

pub record IsSpelt (x : List ℕ) (body : List Token → List Token) : Type 0 where
  pub starts : Starts x
  pub lexes : Lexed x body

-- a text and what stands behind it
then_lexes : (x y rest : List ℕ) (body : List Token → List Token) (vs : List Token) → Lexed x body → goes_on (y ++ rest) ≡ false → Lexes (y ++ rest) vs → Lexes ((x ++ y) ++ rest) (body vs)
then_lexes x y rest body vs spelt stop goes = subst (λ (w : List ℕ). Lexes w (body vs)) (sym (append_assoc x y rest)) (spelt (y ++ rest) vs stop goes)

-- two texts with a token between them
abbrev IsBetween : List ℕ → Token → Type 0
IsBetween between t = ((rest : List ℕ) (us : List Token) → Lexes rest us → Lexes (between ++ rest) (t ∷ us)) × ((rest : List ℕ) → goes_on (between ++ rest) ≡ false)

operated : (x between y : List ℕ) (left right : List Token → List Token) (t : Token) → IsBetween between t → IsSpelt x left → IsSpelt y right → IsSpelt (x ++ between ++ y) (λ us. left (t ∷ right us))
operated x between y left right t middle first second = record {
  starts = starts_on (x ++ between) y (starts_on x between first.starts);
  lexes = λ rest us stop goes.
      subst (λ (w : List ℕ). Lexes w (left (t ∷ right us))) (sym (append_assoc (x ++ between) y rest ∙ append_assoc x between (y ++ rest)))
      (first.lexes (between ++ (y ++ rest)) (t ∷ right us) (middle.1 (y ++ rest)) (middle.0 (y ++ rest) (right us) (second.lexes rest us stop goes)));
}

-- the numbers of numbered variables are short
abbrev pub IsShortTerm : Term → Type 0
IsShortTerm t = (n : ℕ) → is_free_in_term (Num n) t ≡ true → n < 2 ^ 64

abbrev pub AreShortTerms : Terms → Type 0
AreShortTerms ts = (n : ℕ) → is_free_in_terms (Num n) ts ≡ true → n < 2 ^ 64

abbrev pub IsShort : Formula → Type 0
IsShort f = (n : ℕ) → is_free_in (Num n) f ≡ true → n < 2 ^ 64

-- names and variables
lower_no_bar : (b : ℕ) → is_ascii_lowercase b ≡ true → ((b == 124) ≡ false) × ((b == 38) ≡ false)
lower_no_bar b h = (grind (arith, nat_tests), grind (arith, nat_tests))

capital_no_bar : (b : ℕ) → is_ascii_uppercase b ≡ true → ((b == 124) ≡ false) × ((b == 38) ≡ false)
capital_no_bar b h = (grind (arith, nat_tests), grind (arith, nat_tests))

name_starts : (x : List ℕ) → Starts (name_text x)
name_starts [] = starts_with 39 (39 ∷ []) refl refl
name_starts (b ∷ bs) =
    elim (is_lower_word (b ∷ bs)) as (λ (t : Bool). is_lower_word (b ∷ bs) ≡ t → Starts (if t then b ∷ bs else quoted (b ∷ bs))) [
      | true ↦ λ lower. let no = lower_no_bar b (and_parts _ (list_all is_word_byte bs) lower).0 in starts_with b bs no.0 no.1
      | false ↦ λ other. starts_with 39 _ refl refl
    ] refl

variable_starts : (v : Var) → is_formed_var v ≡ true → Starts (variable_text v)
variable_starts (Word []) h = cc
variable_starts (Word (b ∷ bs)) h = let no = capital_no_bar b (and_parts _ (list_all is_word_byte bs) (and_parts _ _ h).0).0 in starts_with b bs no.0 no.1
variable_starts (Num n) h = starts_with 86 _ refl refl

args_stop : (names : ℕ → ℕ) (k : ℕ) (ts : Terms) (rest : List ℕ) → goes_on rest ≡ false → goes_on (args_text names k ts ++ rest) ≡ false
args_stop names k nil rest stop = stop
args_stop names k (cons t ts) rest stop = refl

more_stop : (names : ℕ → ℕ) (k : ℕ) (ts : Terms) (rest : List ℕ) → goes_on (more_text names k ts ++ rest) ≡ false
more_stop names k nil rest = refl
more_stop names k (cons t ts) rest = refl

items_lex : (names : ℕ → ℕ) (k : ℕ) (t : Term) (ts : Terms) (rest : List ℕ) (us : List Token) → Lexed (term_text names k t) (term_tokens names k t) → Lexes (more_text names k ts ++ rest) (more_tokens names k ts us)
    → Lexes ((term_text names k t ++ more_text names k ts) ++ rest) (term_tokens names k t (more_tokens names k ts us))
items_lex names k t ts rest us first more = then_lexes (term_text names k t) (more_text names k ts) rest (term_tokens names k t) (more_tokens names k ts us) first (more_stop names k ts rest) more

-- parentheses

enclosed_spelt : (x : List ℕ) (body : List Token → List Token) → Lexed x body → IsSpelt (enclosed x) (tokens.enclosed body)
enclosed_spelt x body spelt = record {
  starts = starts_with 40 (x ++ 41 ∷ []) refl refl;
  lexes = λ rest us stop goes. open_lexes ((x ++ 41 ∷ []) ++ rest) (body (Close ∷ us)) (then_lexes x (41 ∷ []) rest body (Close ∷ us) spelt refl (close_lexes rest us goes));
}

unit_spelt : (f : Formula) (x : List ℕ) (body : List Token → List Token) → IsSpelt x body → IsSpelt (unit_of f x) (unit_tokens f body)
unit_spelt f x body spelt =
    elim (is_binary f) as (λ (b : Bool). IsSpelt (if b then enclosed x else x) (λ us. if b then tokens.enclosed body us else body us)) [
      | true ↦ enclosed_spelt x body spelt.lexes
      | false ↦ spelt
    ]

left_spelt : (c : ChainOperator) (f : Formula) (x : List ℕ) (body : List Token → List Token) → IsSpelt x body → IsSpelt (if is_chain c f then x else unit_of f x) (left_tokens c f body)
left_spelt c f x body spelt =
    elim (is_chain c f) as (λ (b : Bool). IsSpelt (if b then x else unit_of f x) (λ us. if b then body us else unit_tokens f body us)) [
      | true ↦ spelt
      | false ↦ unit_spelt f x body spelt
    ]

-- a negation before a text
negated_spelt : (x : List ℕ) (body : List Token → List Token) → IsSpelt x body → IsSpelt (126 ∷ x) (λ us. Negation ∷ body us)
negated_spelt x body spelt = record { starts = starts_with 126 x refl refl; lexes = λ rest us stop goes. negation_lexes (x ++ rest) (body us) (apart_of x rest spelt.starts) (spelt.lexes rest us stop goes) }

-- the chosen names below a depth are short
abbrev pub AreNamesShort : (ℕ → ℕ) → ℕ → Type 0
AreNamesShort names most = (d : ℕ) → d < most → names d < 2 ^ 64

module _ (names : ℕ → ℕ) (most : ℕ) (few : AreNamesShort names most) where
  mutual
    pub term_spelt : (k : ℕ) → k ≤ most → (t : Term) → is_formed_term_at k t ≡ true → IsShortTerm t → IsSpelt (term_text names k t) (term_tokens names k t)
    term_spelt k le (free v) h short = record {
      starts = variable_starts v h;
      lexes = λ rest us stop goes. variable_lexes v rest us h (λ n e. short n (ap (λ (w : Var). eq_by_cmp var_cmp (Num n) w) e ∙ same_number n)) stop goes;
    }
    term_spelt k le (bound i) h short =
        let inner : i < k = ltb-true i k (and_parts (ltb i k) (ltb i (2 ^ 32)) h).0 in
        record { starts = starts_with 86 _ refl refl; lexes = λ rest us stop goes. numbered_lexes (names (k - (i + 1))) rest us (few (k - (i + 1)) (omega arith)) stop goes }
    term_spelt k le (app s ts) h short =
        let formed = and_parts _ (are_formed_terms_at k ts) h in
        let name : is_name s.name ≡ true = (and_parts (is_formed_sym s) _ formed.0).0 in
        record {
          starts = starts_on (name_text s.name) (args_text names k ts) (name_starts s.name);
          lexes = λ rest us stop goes.
              then_lexes (name_text s.name) (args_text names k ts) rest (λ vs. Name s.name ∷ vs) (args_tokens names k ts us) (λ more vs. name_lexes s.name more vs name) (args_stop names k ts rest stop) (args_lex k le ts formed.1 short rest us goes);
        }

    args_lex : (k : ℕ) → k ≤ most → (ts : Terms) → are_formed_terms_at k ts ≡ true → AreShortTerms ts → (rest : List ℕ) (us : List Token) → Lexes rest us → Lexes (args_text names k ts ++ rest) (args_tokens names k ts us)
    args_lex k le nil h short rest us goes = goes
    args_lex k le (cons t ts) h short rest us goes =
        open_lexes ((term_text names k t ++ more_text names k ts) ++ rest) (term_tokens names k t (more_tokens names k ts us))
        (items_lex names k t ts rest us (term_spelt k le t (and_parts _ (are_formed_terms_at k ts) h).0 (λ n e. short n (or_left _ (is_free_in_terms (Num n) ts) e))).lexes
        (more_lex k le ts (and_parts (is_formed_term_at k t) _ h).1 (λ n e. short n (or_right (is_free_in_term (Num n) t) _ e)) rest us goes))

    more_lex : (k : ℕ) → k ≤ most → (ts : Terms) → are_formed_terms_at k ts ≡ true → AreShortTerms ts → (rest : List ℕ) (us : List Token) → Lexes rest us → Lexes (more_text names k ts ++ rest) (more_tokens names k ts us)
    more_lex k le nil h short rest us goes = close_lexes rest us goes
    more_lex k le (cons t ts) h short rest us goes =
        comma_lexes ((term_text names k t ++ more_text names k ts) ++ rest) (term_tokens names k t (more_tokens names k ts us))
        (items_lex names k t ts rest us (term_spelt k le t (and_parts _ (are_formed_terms_at k ts) h).0 (λ n e. short n (or_left _ (is_free_in_terms (Num n) ts) e))).lexes
        (more_lex k le ts (and_parts (is_formed_term_at k t) _ h).1 (λ n e. short n (or_right (is_free_in_term (Num n) t) _ e)) rest us goes))

  -- the atoms
  module _ (k : ℕ) (le : k ≤ most) where
    atom_spelt : (between : List ℕ) (sign : Bool) → IsBetween between (Equality sign) → (s : Sym) (ts : Terms) → is_formed_at k (atom (plain s) ts) ≡ true → AreShortTerms ts → IsSpelt (atom_text names k between s ts) (atom_tokens names k sign s ts)
    atom_spelt between sign middle s nil h short = term_spelt k le (app s nil) h short
    atom_spelt between sign middle s (cons t nil) h short = term_spelt k le (app s (cons t nil)) h short
    atom_spelt between sign middle s (cons t (cons u nil)) h short =
        let formed = (and_parts _ (are_formed_terms_at k (cons t (cons u nil))) h).1 in
        let first = term_spelt k le t (and_parts _ (is_formed_term_at k u && true) formed).0 (λ n e. short n (or_left _ (is_free_in_terms (Num n) (cons u nil)) e)) in
        let second = term_spelt k le u (and_parts _ true (and_parts (is_formed_term_at k t) _ formed).1).0 (λ n e. short n (or_right (is_free_in_term (Num n) t) _ (or_left _ false e))) in
        elim (is_equals s.name) as (λ (b : Bool). IsSpelt (if b then term_text names k t ++ between ++ term_text names k u else name_text s.name ++ args_text names k (cons t (cons u nil)))
        (λ us. if b then term_tokens names k t (Equality sign ∷ term_tokens names k u us) else term_tokens names k (app s (cons t (cons u nil))) us)) [
          | true ↦ operated (term_text names k t) between (term_text names k u) (term_tokens names k t) (term_tokens names k u) (Equality sign) middle first second
          | false ↦ term_spelt k le (app s (cons t (cons u nil))) h short
        ]
    atom_spelt between sign middle s (cons t (cons u (cons v vs))) h short = term_spelt k le (app s (cons t (cons u (cons v vs)))) h short

    plain_spelt : (s : Sym) (ts : Terms) → is_formed_at k (atom (plain s) ts) ≡ true → AreShortTerms ts → IsSpelt (atom_text names k (codes " = ") s ts) (atom_tokens names k true s ts)
    plain_spelt = atom_spelt (codes " = ") true (equal_lexes, λ rest. refl)

    differing : (s : Sym) (ts : Terms) → is_equality s ts ≡ true → IsSpelt (atom_text names k (codes " != ") s ts) (atom_tokens names k false s ts) → IsSpelt (atom_text names k (codes " != ") s ts) (sides_tokens names k false ts)
    differing s ts e spelt = subst (λ (b : Bool). IsSpelt (atom_text names k (codes " != ") s ts) (λ us. if b then sides_tokens names k false ts us else term_tokens names k (app s ts) us)) e spelt

    negated_atom_spelt : (s : Sym) (ts : Terms) → is_formed_at k (atom (plain s) ts) ≡ true → AreShortTerms ts
        → IsSpelt (negated names k (atom (plain s) ts) (formula_text names k (atom (plain s) ts))) (negated_tokens names k (atom (plain s) ts) (formula_tokens names k (atom (plain s) ts)))
    negated_atom_spelt s ts h short =
        elim (is_equality s ts) as (λ (b : Bool). is_equality s ts ≡ b → IsSpelt (if b then atom_text names k (codes " != ") s ts else 126 ∷ atom_text names k (codes " = ") s ts)
        (λ us. if b then sides_tokens names k false ts us else Negation ∷ atom_tokens names k true s ts us)) [
          | true ↦ λ e. differing s ts e (atom_spelt (codes " != ") false (different_lexes, λ rest. refl) s ts h short)
          | false ↦ λ e. negated_spelt (atom_text names k (codes " = ") s ts) (atom_tokens names k true s ts) (plain_spelt s ts h short)
        ] refl

  -- the head of a quantifier before a unit
  quantified_spelt : (mark k : ℕ) → k < most → (mark == 124) ≡ false → (mark == 38) ≡ false → (x : List ℕ) (body q : List Token → List Token)
      → ((rest : List ℕ) (us : List Token) → Lexes rest us → Lexes (mark ∷ 91 ∷ rest) (q us)) → IsSpelt x body
      → IsSpelt (head_text mark (names k) ++ x) (λ us. q (Variable (Num (names k)) ∷ CloseSquare ∷ Colon ∷ body us))
  quantified_spelt mark k le no_bar no_and x body q marked spelt =
      let number = numbered_text (names k) in
      record {
        starts = starts_with mark _ no_bar no_and;
        lexes = λ rest us stop goes. marked (((number ++ codes "]: ") ++ x) ++ rest) (Variable (Num (names k)) ∷ CloseSquare ∷ Colon ∷ body us)
            (subst (λ (w : List ℕ). Lexes w (Variable (Num (names k)) ∷ CloseSquare ∷ Colon ∷ body us)) (sym (append_assoc (number ++ codes "]: ") x rest))
            (then_lexes number (codes "]: ") (x ++ rest) (λ vs. Variable (Num (names k)) ∷ vs) (CloseSquare ∷ Colon ∷ body us) (λ more vs. numbered_lexes (names k) more vs (few k le)) refl (head_end_lexes (x ++ rest) (body us) (spelt.lexes rest us stop goes))));
      }

  -- the text and the tokens of a formula, and how they are one where it is well formed
  abbrev Formed : ℕ → Formula → Type 0
  Formed k f = k + quantifier_depth f ≤ most → is_formed_at k f ≡ true → IsShort f → IsSpelt (formula_text names k f) (formula_tokens names k f)

  both_spelt : (k : ℕ) (f g : Formula) → Formed k f → Formed k g → k + quantifier_depth (and f g) ≤ most → is_formed_at k (and f g) ≡ true → IsShort (and f g)
      → IsSpelt (formula_text names k f) (formula_tokens names k f) × IsSpelt (unit_of g (formula_text names k g)) (unit_tokens g (formula_tokens names k g))
  both_spelt k f g p q le h short = (
    p (omega arith) (and_parts _ (is_formed_at k g) h).0 (λ n e. short n (or_left _ (is_free_in (Num n) g) e)),
    unit_spelt g (formula_text names k g) (formula_tokens names k g) (q (omega arith) (and_parts (is_formed_at k f) _ h).1 (λ n e. short n (or_right (is_free_in (Num n) f) _ e))),
  )

  pub formula_spelt : (k : ℕ) (f : Formula) → Formed k f
  formula_spelt k (atom p ts) le h short = plain_spelt k (omega arith) (pred_symbol p) ts (formed_application k p ts h) short
  formula_spelt k top le h short = record { starts = starts_with 36 (codes "true") refl refl; lexes = true_lexes }
  formula_spelt k bot le h short = record { starts = starts_with 36 (codes "false") refl refl; lexes = false_lexes }
  formula_spelt k (not (atom p ts)) le h short = negated_atom_spelt k (omega arith) (pred_symbol p) ts (formed_application k p ts h) short
  formula_spelt k (not f) le h short = negated_spelt (unit_of f (formula_text names k f)) (unit_tokens f (formula_tokens names k f)) (unit_spelt f (formula_text names k f) (formula_tokens names k f) (formula_spelt k f le h short))
  formula_spelt k (and f g) le h short =
      let (p, q) = both_spelt k f g (formula_spelt k f) (formula_spelt k g) le h short in
      operated (left_of_and f (formula_text names k f)) (codes " & ") (unit_of g (formula_text names k g)) (left_tokens And f (formula_tokens names k f)) (unit_tokens g (formula_tokens names k g)) (Chain And)
      (and_lexes, λ rest. refl) (left_spelt And f (formula_text names k f) (formula_tokens names k f) p) q
  formula_spelt k (or f g) le h short =
      let (p, q) = both_spelt k f g (formula_spelt k f) (formula_spelt k g) le h short in
      operated (left_of_or f (formula_text names k f)) (codes " | ") (unit_of g (formula_text names k g)) (left_tokens Or f (formula_tokens names k f)) (unit_tokens g (formula_tokens names k g)) (Chain Or)
      (or_lexes, λ rest. refl) (left_spelt Or f (formula_text names k f) (formula_tokens names k f) p) q
  formula_spelt k (imp f g) le h short =
      let (p, q) = both_spelt k f g (formula_spelt k f) (formula_spelt k g) le h short in
      operated (unit_of f (formula_text names k f)) (codes " => ") (unit_of g (formula_text names k g)) (unit_tokens f (formula_tokens names k f)) (unit_tokens g (formula_tokens names k g)) (Binary Implies)
      (implies_lexes, λ rest. refl) (unit_spelt f (formula_text names k f) (formula_tokens names k f) p) q
  formula_spelt k (all f) le h short =
      quantified_spelt 33 k (omega arith) refl refl (unit_of f (formula_text names (k + 1) f)) (unit_tokens f (formula_tokens names (k + 1) f)) (λ us. Quantifies All ∷ OpenSquare ∷ us) all_lexes
      (unit_spelt f (formula_text names (k + 1) f) (formula_tokens names (k + 1) f) (formula_spelt (k + 1) f (omega arith) h short))
  formula_spelt k (ex f) le h short =
      quantified_spelt 63 k (omega arith) refl refl (unit_of f (formula_text names (k + 1) f)) (unit_tokens f (formula_tokens names (k + 1) f)) (λ us. Quantifies Ex ∷ OpenSquare ∷ us) ex_lexes
      (unit_spelt f (formula_text names (k + 1) f) (formula_tokens names (k + 1) f) (formula_spelt (k + 1) f (omega arith) h short))
