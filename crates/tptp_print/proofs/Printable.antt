-- A canonical text of something well formed is printable ASCII.
use Rattle.std.proofs.Common.{◌≡◌, ℕ, ◌+◌, ◌-◌, ◌/◌, ◌%◌, ◌<◌, ◌≤◌, zero, suc, Bool, true, false, ◌&&◌, ◌||◌, cond, eqb, List, [], ◌∷◌, ◌++◌, length, refl, ap, ◌∙◌, arith}
use Rattle.std.specs.Prelude.{nat_lt, codes, is_none}
use Rattle.std.specs.List.{list_all, flat_map}
use Rattle.std.specs.Char.{is_ascii_uppercase}
use Rattle.std.specs.Fmt.{decimal, digits, digits_onto, digit_glyph}
use Rattle.std.proofs.lemmas.Bool.{and_parts, and_from}
use Rattle.std.proofs.lemmas.Bool.Decides.{nat_tests}
use Rattle.std.proofs.lemmas.List.Folds.{list_all-append}
use Rattle.fol.specs.declared.symbols.Sym.{Sym}
use Rattle.fol.specs.declared.symbols.Var.{Var}
use Rattle.fol.specs.declared.symbols.Var.TheVariants.{Word, Num}
use Rattle.fol.specs.Syntax.{Term, free, bound, app, Terms, nil, cons, pred_symbol, Formula, atom, top, bot, not, and, or, imp, all, ex}
use Rattle.fol.specs.Formed.{is_printable, is_name, is_word_byte, is_formed_var, is_formed_sym, is_formed_term_at, are_formed_terms_at, is_formed_at, count_terms}
use Rattle.fol.specs.Numbered.{number_of_text}
use Rattle.tptp_print.specs.Canonical.{is_lower_word, escaped, quoted, name_text, numbered_text, variable_text, term_text, args_text, more_text, is_equals, is_equality, atom_text, is_binary, is_and, is_or, enclosed, unit_of, left_of_and, left_of_or, negated, head_text, formula_text, canonical, canonical_term}
use Rattle.finite.specs.Finite as set
use Rattle.tptp_print.proofs.Agreement.{formed_application}
use Rattle.free_variables.specs.Occurrence.{vars_formula}
use Rattle.tptp_print.specs.Choice.{numbers_of, outside}

abbrev pub IsPrintable : List ℕ → Type 0
IsPrintable text = list_all is_printable text ≡ true

joined : (xs ys : List ℕ) → IsPrintable xs → IsPrintable ys → IsPrintable (xs ++ ys)
joined xs ys p q = list_all-append is_printable xs ys ∙ and_from (list_all is_printable xs) (list_all is_printable ys) p q

cons_byte : (b : ℕ) (bs : List ℕ) → is_printable b ≡ true → IsPrintable bs → IsPrintable (b ∷ bs)
cons_byte b bs p q = and_from (is_printable b) (list_all is_printable bs) p q

chosen_printable : (b : Bool) (xs ys : List ℕ) → IsPrintable xs → IsPrintable ys → IsPrintable (cond b xs ys)
chosen_printable true xs ys p q = p
chosen_printable false xs ys p q = q

-- digits
glyph_printable : (d : ℕ) → d < 10 → is_printable (digit_glyph false d) ≡ true
glyph_printable d below =
    let test : nat_lt d 10 ≡ true = grind (arith, nat_tests) in
    ap (λ (b : Bool). is_printable (cond b (48 + d) (87 + d))) test ∙ digit_printable (48 + d) (omega arith) (omega arith)
  where
    digit_printable : (b : ℕ) → 48 ≤ b → b ≤ 57 → is_printable b ≡ true
    digit_printable b low high = grind (arith, nat_tests)

digits_printable : (k n : ℕ) (acc : List ℕ) → IsPrintable acc → IsPrintable (digits_onto k 10 false n acc)
digits_printable zero n acc p = p
digits_printable (suc k) n acc p =
    let here = cons_byte (digit_glyph false (n % 10)) acc (glyph_printable (n % 10) (omega arith)) p in
    chosen_printable (eqb (n / 10) 0) (digit_glyph false (n % 10) ∷ acc) (digits_onto k 10 false (n / 10) (digit_glyph false (n % 10) ∷ acc)) here (digits_printable k (n / 10) (digit_glyph false (n % 10) ∷ acc) here)

decimal_printable : (n : ℕ) → IsPrintable (decimal n)
unfolding digits
decimal_printable n = digits_printable 64 n [] refl

numbered_printable : (n : ℕ) → IsPrintable (numbered_text n)
numbered_printable n = cons_byte 86 (decimal n) refl (decimal_printable n)

-- names
escaped_printable : (b : ℕ) → is_printable b ≡ true → IsPrintable (escaped b)
escaped_printable b p = by_test (eqb b 39 || eqb b 92)
  where
    by_test : (t : Bool) → IsPrintable (cond t (92 ∷ b ∷ []) (b ∷ []))
    by_test true = cons_byte 92 (b ∷ []) refl (cons_byte b [] p refl)
    by_test false = cons_byte b [] p refl

all_escaped_printable : (bs : List ℕ) → IsPrintable bs → IsPrintable (flat_map escaped bs)
all_escaped_printable [] p = refl
all_escaped_printable (b ∷ bs) p =
    let parts = and_parts (is_printable b) (list_all is_printable bs) p in
    joined (escaped b) (flat_map escaped bs) (escaped_printable b parts.0) (all_escaped_printable bs parts.1)

name_printable : (name : List ℕ) → is_name name ≡ true → IsPrintable (name_text name)
name_printable name p = by_test (is_lower_word name)
  where
    printable : IsPrintable name
    printable = (and_parts (nat_lt 0 (length name)) (list_all is_printable name) p).1

    by_test : (t : Bool) → IsPrintable (cond t name (quoted name))
    by_test true = printable
    by_test false = cons_byte 39 (flat_map escaped name ++ 39 ∷ []) refl (joined (flat_map escaped name) (39 ∷ []) (all_escaped_printable name printable) refl)

word_byte_printable : (b : ℕ) → is_word_byte b ≡ true → is_printable b ≡ true
word_byte_printable b p = grind (arith, nat_tests)

capital_printable : (b : ℕ) → is_ascii_uppercase b ≡ true → is_printable b ≡ true
capital_printable b p = grind (arith, nat_tests)

word_bytes_printable : (bs : List ℕ) → list_all is_word_byte bs ≡ true → IsPrintable bs
word_bytes_printable [] p = refl
word_bytes_printable (b ∷ bs) p =
    let parts = and_parts (is_word_byte b) (list_all is_word_byte bs) p in
    cons_byte b bs (word_byte_printable b parts.0) (word_bytes_printable bs parts.1)

variable_printable : (v : Var) → is_formed_var v ≡ true → IsPrintable (variable_text v)
variable_printable (Word []) p = refl
variable_printable (Word (b ∷ bs)) p =
    let parts = and_parts (is_ascii_uppercase b && list_all is_word_byte bs) (is_none (number_of_text (b ∷ bs))) p in
    let bytes = and_parts (is_ascii_uppercase b) (list_all is_word_byte bs) parts.0 in
    cons_byte b bs (capital_printable b bytes.0) (word_bytes_printable bs bytes.1)
variable_printable (Num n) p = numbered_printable n

-- a symbol with its arguments is well formed where both are, and the arguments are as many as its arity says
symbol_parts : (k : ℕ) (s : Sym) (ts : Terms) → (is_formed_sym s && eqb (count_terms ts) s.arity && are_formed_terms_at k ts) ≡ true
    → (is_formed_sym s ≡ true) × (are_formed_terms_at k ts ≡ true)
symbol_parts k s ts p =
    let parts = and_parts (is_formed_sym s && eqb (count_terms ts) s.arity) (are_formed_terms_at k ts) p in
    ((and_parts (is_formed_sym s) (eqb (count_terms ts) s.arity) parts.0).0, parts.1)

mutual
  pub term_printable : (names : ℕ → ℕ) (k : ℕ) (t : Term) → is_formed_term_at k t ≡ true → IsPrintable (term_text names k t)
  term_printable names k (free v) p = variable_printable v p
  term_printable names k (bound i) p = numbered_printable (names (k - (i + 1)))
  term_printable names k (app s ts) p =
      let parts = symbol_parts k s ts p in
      joined (name_text s.name) (args_text names k ts) (name_printable s.name parts.0) (args_printable names k ts parts.1)

  args_printable : (names : ℕ → ℕ) (k : ℕ) (ts : Terms) → are_formed_terms_at k ts ≡ true → IsPrintable (args_text names k ts)
  args_printable names k nil p = refl
  args_printable names k (cons t ts) p =
      let parts = and_parts (is_formed_term_at k t) (are_formed_terms_at k ts) p in
      cons_byte 40 (term_text names k t ++ more_text names k ts) refl
      (joined (term_text names k t) (more_text names k ts) (term_printable names k t parts.0) (more_printable names k ts parts.1))

  more_printable : (names : ℕ → ℕ) (k : ℕ) (ts : Terms) → are_formed_terms_at k ts ≡ true → IsPrintable (more_text names k ts)
  more_printable names k nil p = refl
  more_printable names k (cons t ts) p =
      let parts = and_parts (is_formed_term_at k t) (are_formed_terms_at k ts) p in
      cons_byte 44 (term_text names k t ++ more_text names k ts) refl
      (joined (term_text names k t) (more_text names k ts) (term_printable names k t parts.0) (more_printable names k ts parts.1))

atom_printable : (names : ℕ → ℕ) (k : ℕ) (between : List ℕ) (s : Sym) (ts : Terms) → IsPrintable between
    → (is_formed_sym s && eqb (count_terms ts) s.arity && are_formed_terms_at k ts) ≡ true → IsPrintable (atom_text names k between s ts)
atom_printable names k between s nil q p =
    let parts = symbol_parts k s nil p in joined (name_text s.name) [] (name_printable s.name parts.0) refl
atom_printable names k between s (cons t nil) q p =
    let parts = symbol_parts k s (cons t nil) p in
    joined (name_text s.name) (args_text names k (cons t nil)) (name_printable s.name parts.0) (args_printable names k (cons t nil) parts.1)
atom_printable names k between s (cons t (cons u nil)) q p = by_test (is_equals s.name)
  where
    parts : (is_formed_sym s ≡ true) × (are_formed_terms_at k (cons t (cons u nil)) ≡ true)
    parts = symbol_parts k s (cons t (cons u nil)) p

    both : (is_formed_term_at k t ≡ true) × ((is_formed_term_at k u && true) ≡ true)
    both = and_parts (is_formed_term_at k t) (is_formed_term_at k u && true) parts.1

    second : is_formed_term_at k u ≡ true
    second = (and_parts (is_formed_term_at k u) true both.1).0

    by_test : (b : Bool) → IsPrintable (cond b (term_text names k t ++ between ++ term_text names k u) (name_text s.name ++ args_text names k (cons t (cons u nil))))
    by_test true = joined (term_text names k t ++ between) (term_text names k u) (joined (term_text names k t) between (term_printable names k t both.0) q) (term_printable names k u second)
    by_test false = joined (name_text s.name) (args_text names k (cons t (cons u nil))) (name_printable s.name parts.0) (args_printable names k (cons t (cons u nil)) parts.1)
atom_printable names k between s (cons t (cons u (cons v vs))) q p =
    let ts = cons t (cons u (cons v vs)) in
    let parts = symbol_parts k s ts p in
    joined (name_text s.name) (args_text names k ts) (name_printable s.name parts.0) (args_printable names k ts parts.1)

enclosed_printable : (text : List ℕ) → IsPrintable text → IsPrintable (enclosed text)
enclosed_printable text p = cons_byte 40 (text ++ 41 ∷ []) refl (joined text (41 ∷ []) p refl)

unit_printable : (f : Formula) (text : List ℕ) → IsPrintable text → IsPrintable (unit_of f text)
unit_printable f text p = chosen_printable (is_binary f) (enclosed text) text (enclosed_printable text p) p

negated_printable : (names : ℕ → ℕ) (k : ℕ) (f : Formula) (text : List ℕ) → is_formed_at k f ≡ true → IsPrintable text → IsPrintable (negated names k f text)
negated_printable names k (atom r ts) text p q =
    let s = pred_symbol r in
    chosen_printable (is_equality s ts) (atom_text names k (codes " != ") s ts) (126 ∷ text) (atom_printable names k (codes " != ") s ts refl (formed_application k r ts p)) (cons_byte 126 text refl q)
negated_printable names k top text p q = cons_byte 126 text refl q
negated_printable names k bot text p q = cons_byte 126 text refl q
negated_printable names k (not f) text p q = cons_byte 126 text refl q
negated_printable names k (and f g) text p q = cons_byte 126 (enclosed text) refl (enclosed_printable text q)
negated_printable names k (or f g) text p q = cons_byte 126 (enclosed text) refl (enclosed_printable text q)
negated_printable names k (imp f g) text p q = cons_byte 126 (enclosed text) refl (enclosed_printable text q)
negated_printable names k (all f) text p q = cons_byte 126 text refl q
negated_printable names k (ex f) text p q = cons_byte 126 text refl q

head_printable : (mark n : ℕ) → is_printable mark ≡ true → IsPrintable (head_text mark n)
head_printable mark n p = cons_byte mark (91 ∷ (numbered_text n ++ codes "]: ")) p
    (cons_byte 91 (numbered_text n ++ codes "]: ") refl (joined (numbered_text n) (codes "]: ") (numbered_printable n) refl))

-- three texts one after another
three : (a b c : List ℕ) → IsPrintable a → IsPrintable b → IsPrintable c → IsPrintable (a ++ b ++ c)
three a b c p q r = joined (a ++ b) c (joined a b p q) r

pub formula_printable : (names : ℕ → ℕ) (k : ℕ) (f : Formula) → is_formed_at k f ≡ true → IsPrintable (formula_text names k f)
formula_printable names k (atom r ts) p = atom_printable names k (codes " = ") (pred_symbol r) ts refl (formed_application k r ts p)
formula_printable names k top p = refl
formula_printable names k bot p = refl
formula_printable names k (not f) p = negated_printable names k f (formula_text names k f) p (formula_printable names k f p)
formula_printable names k (and f g) p =
    let parts = and_parts (is_formed_at k f) (is_formed_at k g) p in
    let first = formula_printable names k f parts.0 in
    three (left_of_and f (formula_text names k f)) (codes " & ") (unit_of g (formula_text names k g))
    (chosen_printable (is_and f) (formula_text names k f) (unit_of f (formula_text names k f)) first (unit_printable f (formula_text names k f) first))
    refl (unit_printable g (formula_text names k g) (formula_printable names k g parts.1))
formula_printable names k (or f g) p =
    let parts = and_parts (is_formed_at k f) (is_formed_at k g) p in
    let first = formula_printable names k f parts.0 in
    three (left_of_or f (formula_text names k f)) (codes " | ") (unit_of g (formula_text names k g))
    (chosen_printable (is_or f) (formula_text names k f) (unit_of f (formula_text names k f)) first (unit_printable f (formula_text names k f) first))
    refl (unit_printable g (formula_text names k g) (formula_printable names k g parts.1))
formula_printable names k (imp f g) p =
    let parts = and_parts (is_formed_at k f) (is_formed_at k g) p in
    three (unit_of f (formula_text names k f)) (codes " => ") (unit_of g (formula_text names k g))
    (unit_printable f (formula_text names k f) (formula_printable names k f parts.0))
    refl (unit_printable g (formula_text names k g) (formula_printable names k g parts.1))
formula_printable names k (all f) p =
    joined (head_text 33 (names k)) (unit_of f (formula_text names (k + 1) f)) (head_printable 33 (names k) refl)
    (unit_printable f (formula_text names (k + 1) f) (formula_printable names (k + 1) f p))
formula_printable names k (ex f) p =
    joined (head_text 63 (names k)) (unit_of f (formula_text names (k + 1) f)) (head_printable 63 (names k) refl)
    (unit_printable f (formula_text names (k + 1) f) (formula_printable names (k + 1) f p))

pub canonical_printable : (f : Formula) (text : List ℕ) → is_formed_at 0 f ≡ true → text ≡ canonical f → list_all is_printable text ≡ true
unfolding canonical
canonical_printable f text p e = ap (list_all is_printable) e ∙ formula_printable (outside (numbers_of (vars_formula f set.empty))) 0 f p

pub canonical_term_printable : (t : Term) (text : List ℕ) → is_formed_term_at 0 t ≡ true → text ≡ canonical_term t → list_all is_printable text ≡ true
unfolding canonical_term
canonical_term_printable t text p e = ap (list_all is_printable) e ∙ term_printable (λ d. d) 0 t p
