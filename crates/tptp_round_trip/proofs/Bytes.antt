-- How the tokens of canonical texts are found in their bytes.
use Rattle.std.proofs.Common.{◌≡◌, ℕ, suc, ◌+◌, ◌%◌, ◌^◌, ◌<◌, ◌≤◌, Bool, true, false, eqb, ltb, ◌&&◌, ◌||◌, if◌then◌else◌, List, [], ◌∷◌, ◌++◌, length, take, Option, Some, None, is_none, codes, refl, sym, ap, subst, ◌∙◌, append_assoc, append-nil, length-append, arith}
use Rattle.std.specs.List.{list_all, flat_map}
use Rattle.std.specs.Char.{is_ascii_uppercase, is_ascii_lowercase}
use Rattle.std.specs.Fmt.{decimal}
use Rattle.std.proofs.Math.Seq.{take-append_seam, drop-append_seam}
use Rattle.std.proofs.lemmas.Bool.{and_parts, and_from, or_parts, cond-true, cond-false}
use Rattle.std.proofs.lemmas.Fmt.{decimal_by_steps}
use Rattle.std.proofs.lemmas.List.Folds.{list_all-append}
use Rattle.std.proofs.lemmas.Bool.Decides.{nat_tests}
use Rattle.fol.specs.declared.symbols.Var.{Var}
use Rattle.fol.specs.declared.symbols.Var.TheVariants.{Word, Num}
use Rattle.fol.specs.Formed.{is_printable, is_name, is_word_byte, is_formed_var}
use Rattle.fol.specs.Numbered.{number_of_text}
use Rattle.fol.proofs.NumberedTexts.{number_of_numbered}
use Rattle.tptp_tokens.specs.declared.tokens.Quantifier.TheVariants.{All, Ex}
use Rattle.tptp_tokens.specs.declared.tokens.ChainOperator.TheVariants.{And, Or}
use Rattle.tptp_tokens.specs.declared.tokens.BinaryOperator.TheVariants.{Implies}
use Rattle.tptp_tokens.specs.declared.tokens.Token.{Token}
use Rattle.tptp_tokens.specs.declared.tokens.Token.TheVariants.{Name, Variable, Truth, Equality, Negation, Quantifier, Chain, Binary, Open, Close, OpenSquare, CloseSquare, Comma, Colon}
use Rattle.tptp_tokens.specs.declared.tokens.Scan.{Scan}
use Rattle.tptp_tokens.specs.declared.tokens.Scan.TheVariants.{Found}
use Rattle.tptp_tokens.specs.Lexer.{front_length, begins, is_blank, word_at, word_length, variable_of, defined, quoted as scan_quoted, quoted_name, tilde, scanned}
use Rattle.tptp_tokens.specs.Stream.{Stream, next, ends, stream, Begins, here, behind}
use Rattle.tptp_tokens.proofs.Lexing.{found_front, blank_front}
use Rattle.tptp_print.specs.Canonical.{is_lower_word, escaped, quoted, name_text, numbered_text, variable_text}

-- wherever these bytes stand at the end of a text, they are these tokens
abbrev pub Lexes : List ℕ → List Token → Type 0
Lexes bytes ts = (at : ℕ) → (e : ℕ) × Begins (stream 0 at bytes) ts (ends e)

pub nothing_lexes : Lexes [] []
nothing_lexes at = (at, here (ends at))

token_lexes : (w rest : List ℕ) (t : Token) (us : List Token) → 1 ≤ length w → scanned (w ++ rest) ≡ Found t (length w) → Lexes rest us → Lexes (w ++ rest) (t ∷ us)
token_lexes w rest t us some is goes at =
    let behind_it = goes (at + length w) in
    let here_is : stream 0 at (w ++ rest) ≡ next at t (stream 0 (at + length w) rest) =
    found_front t (length w) at (w ++ rest) is some (omega (arith, length-append w rest)) ∙ ap (λ (bs : List ℕ). next at t (stream 0 (at + length w) bs)) (drop-append_seam w rest) in
    (behind_it.0, subst (λ (st : Stream). Begins st (t ∷ us) (ends behind_it.0)) (sym here_is) (behind at t (stream 0 (at + length w) rest) (ends behind_it.0) us behind_it.1))

one_lexes : (b : ℕ) (rest : List ℕ) (t : Token) (us : List Token) → scanned (b ∷ rest) ≡ Found t 1 → Lexes rest us → Lexes (b ∷ rest) (t ∷ us)
one_lexes b rest t us is goes = token_lexes (b ∷ []) rest t us (omega arith) is goes

two_lexes : (b c : ℕ) (rest : List ℕ) (t : Token) (us : List Token) → scanned (b ∷ c ∷ rest) ≡ Found t 2 → Lexes rest us → Lexes (b ∷ c ∷ rest) (t ∷ us)
two_lexes b c rest t us is goes = token_lexes (b ∷ c ∷ []) rest t us (omega arith) is goes

pub space_lexes : (rest : List ℕ) (us : List Token) → Lexes rest us → Lexes (32 ∷ rest) us
unfolding scanned
space_lexes rest us goes at =
    let is : stream 0 at (32 ∷ rest) ≡ stream 0 (at + 1) rest = blank_front 1 at (32 ∷ rest) refl (omega arith) (omega arith) in
    let behind_it = goes (at + 1) in
    (behind_it.0, subst (λ (st : Stream). Begins st us (ends behind_it.0)) (sym is) behind_it.1)

-- symbols

pub open_lexes : (rest : List ℕ) (us : List Token) → Lexes rest us → Lexes (40 ∷ rest) (Open ∷ us)
unfolding scanned
open_lexes rest us = one_lexes 40 rest Open us refl

pub close_lexes : (rest : List ℕ) (us : List Token) → Lexes rest us → Lexes (41 ∷ rest) (Close ∷ us)
unfolding scanned
close_lexes rest us = one_lexes 41 rest Close us refl

pub comma_lexes : (rest : List ℕ) (us : List Token) → Lexes rest us → Lexes (44 ∷ rest) (Comma ∷ us)
unfolding scanned
comma_lexes rest us = one_lexes 44 rest Comma us refl

-- `![`, `?[` and `]: `
pub all_lexes : (rest : List ℕ) (us : List Token) → Lexes rest us → Lexes (33 ∷ 91 ∷ rest) (Quantifier All ∷ OpenSquare ∷ us)
unfolding scanned
all_lexes rest us goes = one_lexes 33 (91 ∷ rest) (Quantifier All) (OpenSquare ∷ us) refl (one_lexes 91 rest OpenSquare us refl goes)

pub ex_lexes : (rest : List ℕ) (us : List Token) → Lexes rest us → Lexes (63 ∷ 91 ∷ rest) (Quantifier Ex ∷ OpenSquare ∷ us)
unfolding scanned
ex_lexes rest us goes = one_lexes 63 (91 ∷ rest) (Quantifier Ex) (OpenSquare ∷ us) refl (one_lexes 91 rest OpenSquare us refl goes)

pub head_end_lexes : (rest : List ℕ) (us : List Token) → Lexes rest us → Lexes (93 ∷ 58 ∷ 32 ∷ rest) (CloseSquare ∷ Colon ∷ us)
unfolding scanned
head_end_lexes rest us goes = one_lexes 93 (58 ∷ 32 ∷ rest) CloseSquare (Colon ∷ us) refl (one_lexes 58 (32 ∷ rest) Colon us refl (space_lexes rest us goes))

-- ` & `, ` | `, ` => `, ` = ` and ` != `
pub and_lexes : (rest : List ℕ) (us : List Token) → Lexes rest us → Lexes (32 ∷ 38 ∷ 32 ∷ rest) (Chain And ∷ us)
unfolding scanned
and_lexes rest us goes = space_lexes (38 ∷ 32 ∷ rest) (Chain And ∷ us) (one_lexes 38 (32 ∷ rest) (Chain And) us refl (space_lexes rest us goes))

pub or_lexes : (rest : List ℕ) (us : List Token) → Lexes rest us → Lexes (32 ∷ 124 ∷ 32 ∷ rest) (Chain Or ∷ us)
unfolding scanned
or_lexes rest us goes = space_lexes (124 ∷ 32 ∷ rest) (Chain Or ∷ us) (one_lexes 124 (32 ∷ rest) (Chain Or) us refl (space_lexes rest us goes))

pub implies_lexes : (rest : List ℕ) (us : List Token) → Lexes rest us → Lexes (32 ∷ 61 ∷ 62 ∷ 32 ∷ rest) (Binary Implies ∷ us)
unfolding scanned
implies_lexes rest us goes = space_lexes (61 ∷ 62 ∷ 32 ∷ rest) (Binary Implies ∷ us) (two_lexes 61 62 (32 ∷ rest) (Binary Implies) us refl (space_lexes rest us goes))

pub equal_lexes : (rest : List ℕ) (us : List Token) → Lexes rest us → Lexes (32 ∷ 61 ∷ 32 ∷ rest) (Equality true ∷ us)
unfolding scanned
equal_lexes rest us goes = space_lexes (61 ∷ 32 ∷ rest) (Equality true ∷ us) (one_lexes 61 (32 ∷ rest) (Equality true) us refl (space_lexes rest us goes))

pub different_lexes : (rest : List ℕ) (us : List Token) → Lexes rest us → Lexes (32 ∷ 33 ∷ 61 ∷ 32 ∷ rest) (Equality false ∷ us)
unfolding scanned
different_lexes rest us goes = space_lexes (33 ∷ 61 ∷ 32 ∷ rest) (Equality false ∷ us) (two_lexes 33 61 (32 ∷ rest) (Equality false) us refl (space_lexes rest us goes))

-- bytes that go on a `~` to no other token
pub record IsApart (bytes : List ℕ) : Type 0 where
  pub from_bar : begins 124 bytes ≡ false
  pub from_and : begins 38 bytes ≡ false

pub negation_lexes : (rest : List ℕ) (us : List Token) → IsApart rest → Lexes rest us → Lexes (126 ∷ rest) (Negation ∷ us)
unfolding scanned
negation_lexes rest us apart goes =
    let is : tilde rest ≡ Found Negation 1 = rw (apart.from_bar, apart.from_and) refl in
    one_lexes 126 rest Negation us is goes

-- words

-- whether the bytes go on a word
abbrev pub goes_on : List ℕ → Bool
goes_on [] = false
goes_on (b ∷ bs) = is_word_byte b

word_front : (w rest : List ℕ) → list_all is_word_byte w ≡ true → goes_on rest ≡ false → front_length is_word_byte (w ++ rest) ≡ length w
word_front [] [] all stop = refl
word_front [] (b ∷ bs) all stop = ap (λ (t : Bool). if t then suc (front_length is_word_byte bs) else 0) stop
word_front (c ∷ w) rest all stop =
    let parts = and_parts (is_word_byte c) (list_all is_word_byte w) all in
    ap (λ (t : Bool). if t then suc (front_length is_word_byte (w ++ rest)) else 0) parts.0 ∙ ap suc (word_front w rest parts.1 stop)

word_taken : (w rest : List ℕ) → list_all is_word_byte w ≡ true → goes_on rest ≡ false → take (front_length is_word_byte (w ++ rest)) (w ++ rest) ≡ w
word_taken w rest all stop = ap (λ (n : ℕ). take n (w ++ rest)) (word_front w rest all stop) ∙ take-append_seam w rest

lower_no_blank : (b : ℕ) → is_ascii_lowercase b ≡ true → is_blank b ≡ false
lower_no_blank b h = grind (arith, nat_tests)

capital_no_blank : (b : ℕ) → is_ascii_uppercase b ≡ true → is_blank b ≡ false
capital_no_blank b h = grind (arith, nat_tests)

capital_no_lower : (b : ℕ) → is_ascii_uppercase b ≡ true → is_ascii_lowercase b ≡ false
capital_no_lower b h = grind (arith, nat_tests)

lower_scanned : (b : ℕ) (bs : List ℕ) → is_ascii_lowercase b ≡ true → scanned (b ∷ bs) ≡ Found (Name (word_at b bs)) (word_length bs)
unfolding scanned
lower_scanned b bs h = cond-false (is_blank b) _ _ (lower_no_blank b h) ∙ cond-true (is_ascii_lowercase b) _ _ h

capital_scanned : (b : ℕ) (bs : List ℕ) → is_ascii_uppercase b ≡ true → scanned (b ∷ bs) ≡ Found (Variable (variable_of (word_at b bs) (number_of_text (word_at b bs)))) (word_length bs)
unfolding scanned
capital_scanned b bs h =
    cond-false (is_blank b) _ _ (capital_no_blank b h) ∙ (cond-false (is_ascii_lowercase b) _ _ (capital_no_lower b h) ∙ cond-true (is_ascii_uppercase b) _ _ h)

lower_lexes : (b : ℕ) (w rest : List ℕ) (us : List Token) → is_ascii_lowercase b ≡ true → list_all is_word_byte w ≡ true → goes_on rest ≡ false → Lexes rest us → Lexes (b ∷ (w ++ rest)) (Name (b ∷ w) ∷ us)
lower_lexes b w rest us low all stop goes =
    token_lexes (b ∷ w) rest (Name (b ∷ w)) us (omega arith)
    (lower_scanned b (w ++ rest) low ∙ (λ i. Found (Name (b ∷ word_taken w rest all stop i)) (suc (word_front w rest all stop i)))) goes

capital_lexes : (b : ℕ) (w rest : List ℕ) (o : Option ℕ) (us : List Token) → is_ascii_uppercase b ≡ true → list_all is_word_byte w ≡ true → number_of_text (b ∷ w) ≡ o → goes_on rest ≡ false → Lexes rest us
    → Lexes (b ∷ (w ++ rest)) (Variable (variable_of (b ∷ w) o) ∷ us)
capital_lexes b w rest o us upper all number stop goes =
    token_lexes (b ∷ w) rest (Variable (variable_of (b ∷ w) o)) us (omega arith)
    (capital_scanned b (w ++ rest) upper
    ∙ ((λ i. Found (Variable (variable_of (b ∷ word_taken w rest all stop i) (number_of_text (b ∷ word_taken w rest all stop i)))) (suc (word_front w rest all stop i)))
    ∙ ap (λ (p : Option ℕ). Found (Variable (variable_of (b ∷ w) p)) (suc (length w))) number)) goes

-- digits
digit_in_word : (b : ℕ) → 48 ≤ b → b ≤ 57 → is_word_byte b ≡ true
digit_in_word b low high = grind (arith, nat_tests)

decimal_in_word : (n : ℕ) → n < 2 ^ 64 → list_all is_word_byte (decimal n) ≡ true
decimal_in_word n short = decimal_by_steps (λ m ds. list_all is_word_byte ds ≡ true) (λ m l. and_from _ true (digit_in_word (48 + m) (omega arith) (omega arith)) refl)
    (λ m ds l h. list_all-append is_word_byte ds ((48 + m % 10) ∷ []) ∙ and_from _ _ h (and_from _ true (digit_in_word (48 + m % 10) (omega arith) (omega arith)) refl)) n short

pub numbered_lexes : (n : ℕ) (rest : List ℕ) (us : List Token) → n < 2 ^ 64 → goes_on rest ≡ false → Lexes rest us → Lexes (numbered_text n ++ rest) (Variable (Num n) ∷ us)
numbered_lexes n rest us short stop goes = capital_lexes 86 (decimal n) rest (Some n) us refl (decimal_in_word n short) (number_of_numbered n short) stop goes

none_is : (o : Option ℕ) → is_none o ≡ true → o ≡ None
none_is None h = refl
none_is (Some n) h = cc

pub variable_lexes : (v : Var) (rest : List ℕ) (us : List Token) → is_formed_var v ≡ true → ((n : ℕ) → v ≡ Num n → n < 2 ^ 64) → goes_on rest ≡ false → Lexes rest us → Lexes (variable_text v ++ rest) (Variable v ∷ us)
variable_lexes (Word []) rest us h short stop goes = cc
variable_lexes (Word (b ∷ w)) rest us h short stop goes =
    let parts = and_parts (is_ascii_uppercase b && list_all is_word_byte w) (is_none (number_of_text (b ∷ w))) h in
    let bytes = and_parts (is_ascii_uppercase b) (list_all is_word_byte w) parts.0 in
    capital_lexes b w rest None us bytes.0 bytes.1 (none_is (number_of_text (b ∷ w)) parts.1) stop goes
variable_lexes (Num n) rest us h short stop goes = numbered_lexes n rest us (short n refl) stop goes

-- names in quotes

quotes_read : (bs x rest : List ℕ) (n : ℕ) → list_all is_printable bs ≡ true → scan_quoted x false n (flat_map escaped bs ++ 39 ∷ rest) ≡ quoted_name (x ++ bs) (n + length (flat_map escaped bs))
quotes_read [] x rest n h = λ i. quoted_name (sym (append-nil x) i) (let none : n ≡ n + 0 = omega arith in none i)
quotes_read (b ∷ bs) x rest n h =
    let parts = and_parts (is_printable b) (list_all is_printable bs) h in
    elim (eqb b 39 || eqb b 92) as (λ (t : Bool). (eqb b 39 || eqb b 92) ≡ t
    → scan_quoted x false n (((if t then 92 ∷ b ∷ [] else b ∷ []) ++ flat_map escaped bs) ++ 39 ∷ rest) ≡ quoted_name (x ++ b ∷ bs) (n + length ((if t then 92 ∷ b ∷ [] else b ∷ []) ++ flat_map escaped bs))) [
      | true ↦ λ special. after_escape b bs x rest n special (quotes_read bs (x ++ b ∷ []) rest (suc (suc n)) parts.1)
      | false ↦ λ plain. without_escape b bs x rest n plain parts.0 (quotes_read bs (x ++ b ∷ []) rest (suc n) parts.1)
    ] refl
  where
    named : (b : ℕ) (bs x : List ℕ) (m n : ℕ) → m ≡ n → quoted_name ((x ++ b ∷ []) ++ bs) m ≡ quoted_name (x ++ b ∷ bs) n
    named b bs x m n e = λ i. quoted_name (append_assoc x (b ∷ []) bs i) (e i)

    after_escape : (b : ℕ) (bs x rest : List ℕ) (n : ℕ) → (eqb b 39 || eqb b 92) ≡ true
        → scan_quoted (x ++ b ∷ []) false (suc (suc n)) (flat_map escaped bs ++ 39 ∷ rest) ≡ quoted_name ((x ++ b ∷ []) ++ bs) (suc (suc n) + length (flat_map escaped bs))
        → scan_quoted x false n (92 ∷ b ∷ (flat_map escaped bs ++ 39 ∷ rest)) ≡ quoted_name (x ++ b ∷ bs) (n + suc (suc (length (flat_map escaped bs))))
    after_escape b bs x rest n special is =
        cond-true (eqb b 39 || eqb b 92) _ _ special ∙ (is ∙ named b bs x _ _ (omega arith))

    without_escape : (b : ℕ) (bs x rest : List ℕ) (n : ℕ) → (eqb b 39 || eqb b 92) ≡ false → is_printable b ≡ true
        → scan_quoted (x ++ b ∷ []) false (suc n) (flat_map escaped bs ++ 39 ∷ rest) ≡ quoted_name ((x ++ b ∷ []) ++ bs) (suc n + length (flat_map escaped bs))
        → scan_quoted x false n (b ∷ (flat_map escaped bs ++ 39 ∷ rest)) ≡ quoted_name (x ++ b ∷ bs) (n + suc (length (flat_map escaped bs)))
    without_escape b bs x rest n plain prints is =
        let no = or_parts (eqb b 39) (eqb b 92) plain in
        cond-false (eqb b 39) _ _ no.0 ∙ (cond-false (eqb b 92) _ _ no.1 ∙ (cond-true (is_printable b) _ _ prints ∙ (is ∙ named b bs x _ _ (omega arith))))

quoted_scanned : (b : ℕ) (bs rest : List ℕ) → list_all is_printable (b ∷ bs) ≡ true → scanned (39 ∷ (flat_map escaped (b ∷ bs) ++ 39 ∷ rest)) ≡ Found (Name (b ∷ bs)) (suc (1 + length (flat_map escaped (b ∷ bs))))
unfolding scanned
quoted_scanned b bs rest h = quotes_read (b ∷ bs) [] rest 1 h

quoted_lexes : (b : ℕ) (bs rest : List ℕ) (us : List Token) → list_all is_printable (b ∷ bs) ≡ true → Lexes rest us → Lexes (quoted (b ∷ bs) ++ rest) (Name (b ∷ bs) ∷ us)
quoted_lexes b bs rest us h goes =
    let inside = flat_map escaped (b ∷ bs) in
    let bytes : quoted (b ∷ bs) ++ rest ≡ 39 ∷ (inside ++ 39 ∷ rest) = ap (λ (x : List ℕ). 39 ∷ x) (append_assoc inside (39 ∷ []) rest) in
    let size : suc (1 + length inside) ≡ length (quoted (b ∷ bs)) = omega (arith, length-append inside (39 ∷ [])) in
    token_lexes (quoted (b ∷ bs)) rest (Name (b ∷ bs)) us (omega arith) (ap scanned bytes ∙ (quoted_scanned b bs rest h ∙ ap (λ (n : ℕ). Found (Name (b ∷ bs)) n) size)) goes

pub name_lexes : (x rest : List ℕ) (us : List Token) → is_name x ≡ true → goes_on rest ≡ false → Lexes rest us → Lexes (name_text x ++ rest) (Name x ∷ us)
name_lexes [] rest us h stop goes = cc
name_lexes (b ∷ bs) rest us h stop goes =
    elim (is_lower_word (b ∷ bs)) as (λ (t : Bool). is_lower_word (b ∷ bs) ≡ t → Lexes ((if t then b ∷ bs else quoted (b ∷ bs)) ++ rest) (Name (b ∷ bs) ∷ us)) [
      | true ↦ λ lower. let parts = and_parts (is_ascii_lowercase b) (list_all is_word_byte bs) lower in lower_lexes b bs rest us parts.0 parts.1 stop goes
      | false ↦ λ other. quoted_lexes b bs rest us (and_parts (ltb 0 (length (b ∷ bs))) (list_all is_printable (b ∷ bs)) h).1 goes
    ] refl

-- `$true` and `$false`
defined_scanned : (w rest : List ℕ) (s : Scan) → list_all is_word_byte w ≡ true → goes_on rest ≡ false → defined w (suc (length w)) ≡ s → scanned (36 ∷ (w ++ rest)) ≡ s
unfolding scanned
defined_scanned w rest s all stop is = (λ i. defined (word_taken w rest all stop i) (suc (word_front w rest all stop i))) ∙ is

pub true_lexes : (rest : List ℕ) (us : List Token) → goes_on rest ≡ false → Lexes rest us → Lexes (codes "$true" ++ rest) (Truth true ∷ us)
true_lexes rest us stop goes = token_lexes (codes "$true") rest (Truth true) us (omega arith) (defined_scanned (codes "true") rest (Found (Truth true) 5) refl stop refl) goes

pub false_lexes : (rest : List ℕ) (us : List Token) → goes_on rest ≡ false → Lexes rest us → Lexes (codes "$false" ++ rest) (Truth false ∷ us)
false_lexes rest us stop goes = token_lexes (codes "$false") rest (Truth false) us (omega arith) (defined_scanned (codes "false") rest (Found (Truth false) 6) refl stop refl) goes
