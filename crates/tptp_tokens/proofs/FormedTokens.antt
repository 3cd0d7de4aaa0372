-- The tokens of a text are well formed.
use Rattle.std.proofs.Common.{◌≡◌, ℕ, zero, suc, ◌+◌, ◌-◌, Bool, true, false, ◌==◌, ◌&&◌, ◌||◌, ltb, if◌then◌else◌, List, [], ◌∷◌, ◌++◌, length, take, Option, Some, None, IfSome, Result, Ok, Err, IfOk, codes, refl, sym, subst, arith}
use Rattle.std.specs.Char.{is_ascii_uppercase, is_ascii_lowercase, is_ascii_digit}
use Rattle.std.specs.Str.{bytes_eq}
use Rattle.std.specs.List.{list_all}
use Rattle.std.proofs.lemmas.Bool.Decides.{nat_tests}
use Rattle.std.specs.declared.alloc.AllocError.{AllocError}
use Rattle.fol.specs.declared.symbols.Var.{Var}
use Rattle.fol.specs.Formed.{is_printable, is_word_byte, is_name, is_formed_var, IsFormedVar}
use Rattle.fol.specs.Numbered.{number_of_text}
use Rattle.tptp_tokens.specs.declared.tokens.Quantifier.TheVariants.{All, Ex}
use Rattle.tptp_tokens.specs.declared.tokens.ChainOperator.TheVariants.{And, Or}
use Rattle.tptp_tokens.specs.declared.tokens.BinaryOperator.TheVariants.{Implies, ImpliedBy, Equivalent, Different, Nor, Nand}
use Rattle.tptp_tokens.specs.declared.tokens.Token.{Token}
use Rattle.tptp_tokens.specs.declared.tokens.Token.TheVariants.{Name, Variable, Truth, Equality, Negation, Quantifier, Chain, Binary, Open, Close, OpenSquare, CloseSquare, Comma, Dot, Colon}
use Rattle.tptp_tokens.specs.declared.tokens.TextKind.TheVariants.{Token as NoToken, DefinedWord, Number, Distinct}
use Rattle.tptp_tokens.specs.declared.tokens.Scan.{Scan}
use Rattle.tptp_tokens.specs.declared.tokens.Scan.TheVariants.{End, Blank, Found, Wrong}
use Rattle.tptp_tokens.specs.Lexer.{front_length, begins, is_blank, is_in_line, word_at, word_length, variable_of, defined, quoted_name, quoted, comment, single, exclamation, equals, tilde, less, slash, sign, longer, symbol, scanned_from, scanned, whole_variable}
use Rattle.tptp_tokens.specs.Stream.{Stream, next, ends, bad, stream, Begins, here, behind}
use Rattle.tptp_tokens.specs.Formed.{is_formed_token, IsFormedScan, AreFormedTokens}

-- tests joined
both_true : (a b : Bool) → a ≡ true → b ≡ true → (a && b) ≡ true
both_true true b p q = q
both_true false b p q = cc

left_true : (a b : Bool) → (a && b) ≡ true → a ≡ true
left_true true b p = refl
left_true false b p = cc

right_true : (a b : Bool) → (a && b) ≡ true → b ≡ true
right_true true b p = p
right_true false b p = cc

-- a choice
chosen : (b : Bool) (x y : Scan) → (b ≡ true → IsFormedScan x) → (b ≡ false → IsFormedScan y) → IsFormedScan (if b then x else y)
chosen true x y f g = f refl
chosen false x y f g = g refl

-- bytes of words and names
word_prints : (b : ℕ) → is_word_byte b ≡ true → is_printable b ≡ true
word_prints b p = grind (arith, nat_tests)

lower_prints : (b : ℕ) → is_ascii_lowercase b ≡ true → is_printable b ≡ true
lower_prints b p = grind (arith, nat_tests)

escaped_prints : (b : ℕ) → (b == 39 || b == 92) ≡ true → is_printable b ≡ true
escaped_prints b p = grind (arith, nat_tests)

words_print : (xs : List ℕ) → list_all is_word_byte xs ≡ true → list_all is_printable xs ≡ true
words_print [] p = refl
words_print (x ∷ xs) p = both_true (is_printable x) (list_all is_printable xs) (word_prints x (left_true (is_word_byte x) (list_all is_word_byte xs) p)) (words_print xs (right_true (is_word_byte x) (list_all is_word_byte xs) p))

front_words : (bs : List ℕ) → list_all is_word_byte (take (front_length is_word_byte bs) bs) ≡ true
front_words [] = refl
front_words (b ∷ bs) =
    elim (is_word_byte b) as (λ (t : Bool). is_word_byte b ≡ t → list_all is_word_byte (take (if t then suc (front_length is_word_byte bs) else 0) (b ∷ bs)) ≡ true) [
      | true ↦ λ is. both_true (is_word_byte b) (list_all is_word_byte (take (front_length is_word_byte bs) bs)) is (front_words bs)
      | false ↦ λ is. refl
    ] refl

more_print : (xs : List ℕ) (y : ℕ) → list_all is_printable xs ≡ true → is_printable y ≡ true → list_all is_printable (xs ++ y ∷ []) ≡ true
more_print [] y p q = both_true (is_printable y) true q refl
more_print (x ∷ xs) y p q = both_true (is_printable x) (list_all is_printable (xs ++ y ∷ [])) (left_true (is_printable x) (list_all is_printable xs) p) (more_print xs y (right_true (is_printable x) (list_all is_printable xs) p) q)

some_name : (b : ℕ) (bs : List ℕ) → list_all is_printable (b ∷ bs) ≡ true → is_name (b ∷ bs) ≡ true
some_name b bs p = let some : ltb 0 (suc (length bs)) ≡ true = grind (arith, nat_tests) in both_true (ltb 0 (suc (length bs))) (list_all is_printable (b ∷ bs)) some p

-- each token
name_formed : (b : ℕ) (bs : List ℕ) → is_ascii_lowercase b ≡ true → is_name (word_at b bs) ≡ true
name_formed b bs low =
    some_name b (take (front_length is_word_byte bs) bs)
    (both_true (is_printable b) (list_all is_printable (take (front_length is_word_byte bs) bs)) (lower_prints b low) (words_print (take (front_length is_word_byte bs) bs) (front_words bs)))

variable_formed : (b : ℕ) (bs : List ℕ) → is_ascii_uppercase b ≡ true → is_formed_var (variable_of (word_at b bs) (number_of_text (word_at b bs))) ≡ true
variable_formed b bs upper =
    elim (number_of_text (word_at b bs)) as (λ (o : Option ℕ). number_of_text (word_at b bs) ≡ o → is_formed_var (variable_of (word_at b bs) o) ≡ true) [
      | None ↦ λ is. rw is (both_true (is_ascii_uppercase b && list_all is_word_byte (take (front_length is_word_byte bs) bs)) true
          (both_true (is_ascii_uppercase b) (list_all is_word_byte (take (front_length is_word_byte bs) bs)) upper (front_words bs)) refl)
      | Some n ↦ λ is. refl
    ] refl

quoted_name_formed : (x : List ℕ) (n : ℕ) → list_all is_printable x ≡ true → IsFormedScan (quoted_name x n)
quoted_name_formed [] n p = tt
quoted_name_formed (b ∷ bs) n p = some_name b bs p

quoted_formed : (bs x : List ℕ) (escaping : Bool) (n : ℕ) → list_all is_printable x ≡ true → IsFormedScan (quoted x escaping n bs)
quoted_formed [] x true n p = tt
quoted_formed [] x false n p = tt
quoted_formed (b ∷ bs) x true n p =
    chosen (b == 39 || b == 92) (quoted (x ++ b ∷ []) false (suc n) bs) (Wrong (n - 1) NoToken) (λ is. quoted_formed bs (x ++ b ∷ []) false (suc n) (more_print x b p (escaped_prints b is))) (λ is. tt)
quoted_formed (b ∷ bs) x false n p =
    chosen (b == 39) (quoted_name x n) (if b == 92 then quoted x true (suc n) bs else (if is_printable b then quoted (x ++ b ∷ []) false (suc n) bs else Wrong n NoToken)) (λ is. quoted_name_formed x n p)
    (λ no. chosen (b == 92) (quoted x true (suc n) bs) (if is_printable b then quoted (x ++ b ∷ []) false (suc n) bs else Wrong n NoToken) (λ is. quoted_formed bs x true (suc n) p)
    (λ not. chosen (is_printable b) (quoted (x ++ b ∷ []) false (suc n) bs) (Wrong n NoToken) (λ is. quoted_formed bs (x ++ b ∷ []) false (suc n) (more_print x b p is)) (λ is. tt)))

-- tokens that are neither names nor variables
comment_formed : (bs : List ℕ) (star : Bool) (n : ℕ) → IsFormedScan (comment star n bs)
comment_formed [] star n = tt
comment_formed (b ∷ bs) star n = chosen (star && b == 47) (Blank (suc n)) (comment (b == 42) (suc n) bs) (λ is. tt) (λ is. comment_formed bs (b == 42) (suc n))

defined_formed : (x : List ℕ) (n : ℕ) → IsFormedScan (defined x n)
defined_formed x n =
    chosen (bytes_eq x (codes "true")) (Found (Truth true) n) (if bytes_eq x (codes "false") then Found (Truth false) n else Wrong 0 DefinedWord) (λ is. refl)
    (λ is. chosen (bytes_eq x (codes "false")) (Found (Truth false) n) (Wrong 0 DefinedWord) (λ is. refl) (λ is. tt))

exclamation_formed : (bs : List ℕ) → IsFormedScan (exclamation bs)
exclamation_formed bs = chosen (begins 61 bs) (Found (Equality false) 2) (Found (Quantifier All) 1) (λ is. refl) (λ is. refl)

equals_formed : (bs : List ℕ) → IsFormedScan (equals bs)
equals_formed bs = chosen (begins 62 bs) (Found (Binary Implies) 2) (Found (Equality true) 1) (λ is. refl) (λ is. refl)

tilde_formed : (bs : List ℕ) → IsFormedScan (tilde bs)
tilde_formed bs =
    chosen (begins 124 bs) (Found (Binary Nor) 2) (if begins 38 bs then Found (Binary Nand) 2 else Found Negation 1) (λ is. refl)
    (λ is. chosen (begins 38 bs) (Found (Binary Nand) 2) (Found Negation 1) (λ is. refl) (λ is. refl))

less_formed : (bs : List ℕ) → IsFormedScan (less bs)
less_formed [] = tt
less_formed (b ∷ bs) =
    chosen (b == 61) (if begins 62 bs then Found (Binary Equivalent) 3 else Found (Binary ImpliedBy) 2) (if b == 126 && begins 62 bs then Found (Binary Different) 3 else Wrong 0 NoToken)
    (λ is. chosen (begins 62 bs) (Found (Binary Equivalent) 3) (Found (Binary ImpliedBy) 2) (λ is. refl) (λ is. refl))
    (λ is. chosen (b == 126 && begins 62 bs) (Found (Binary Different) 3) (Wrong 0 NoToken) (λ is. refl) (λ is. tt))

slash_formed : (bs : List ℕ) → IsFormedScan (slash bs)
slash_formed [] = tt
slash_formed (b ∷ bs) = chosen (b == 42) (comment false 2 bs) (Wrong 0 NoToken) (λ is. comment_formed bs false 2) (λ is. tt)

sign_formed : (bs : List ℕ) → IsFormedScan (sign bs)
sign_formed [] = tt
sign_formed (b ∷ bs) = chosen (is_ascii_digit b) (Wrong 0 Number) (Wrong 0 NoToken) (λ is. tt) (λ is. tt)

longer_formed : (b : ℕ) (bs : List ℕ) → IsFormedScan (longer b bs)
longer_formed b bs =
    chosen (b == 33) (exclamation bs) _ (λ is. exclamation_formed bs) (λ is. chosen (b == 61) (equals bs) _ (λ is. equals_formed bs) (λ is. chosen (b == 126) (tilde bs) _ (λ is. tilde_formed bs)
    (λ is. chosen (b == 60) (less bs) _ (λ is. less_formed bs) (λ is. chosen (b == 47) (slash bs) _ (λ is. slash_formed bs) (λ is. chosen (b == 43 || b == 45) (sign bs) (Wrong 0 NoToken) (λ is. sign_formed bs) (λ is. tt))))))

-- a choice of tokens
IsFormedOption : Option Token → Type 0
IsFormedOption None = Unit {0}
IsFormedOption (Some t) = is_formed_token t ≡ true

one_of : (b : Bool) (t : Token) (o : Option Token) → is_formed_token t ≡ true → IsFormedOption o → IsFormedOption (if b then Some t else o)
unfolding IsFormedOption
one_of true t o p q = p
one_of false t o p q = q

single_formed : (b : ℕ) → IsFormedOption (single b)
unfolding IsFormedOption
single_formed b =
    one_of (b == 40) Open _ refl (one_of (b == 41) Close _ refl (one_of (b == 91) OpenSquare _ refl (one_of (b == 93) CloseSquare _ refl (one_of (b == 44) Comma _ refl (one_of (b == 46) Dot _ refl
    (one_of (b == 58) Colon _ refl (one_of (b == 63) (Quantifier Ex) _ refl (one_of (b == 38) (Chain And) _ refl (one_of (b == 124) (Chain Or) None refl tt)))))))))

symbol_formed : (o : Option Token) (b : ℕ) (bs : List ℕ) → IsFormedOption o → IsFormedScan (symbol o b bs)
unfolding IsFormedOption
symbol_formed None b bs p = longer_formed b bs
symbol_formed (Some t) b bs p = p

from_formed : (b : ℕ) (bs : List ℕ) → IsFormedScan (scanned_from b bs)
from_formed b bs =
    chosen (is_blank b) (Blank 1) _ (λ is. tt) (λ is. chosen (is_ascii_lowercase b) (Found (Name (word_at b bs)) (word_length bs)) _ (name_formed b bs)
    (λ is. chosen (is_ascii_uppercase b) (Found (Variable (variable_of (word_at b bs) (number_of_text (word_at b bs)))) (word_length bs)) _ (variable_formed b bs)
    (λ is. chosen (is_ascii_digit b) (Wrong 0 Number) _ (λ is. tt) (λ is. chosen (b == 34) (Wrong 0 Distinct) _ (λ is. tt)
    (λ is. chosen (b == 36) (defined (take (front_length is_word_byte bs) bs) (word_length bs)) _ (λ is. defined_formed (take (front_length is_word_byte bs) bs) (word_length bs))
    (λ is. chosen (b == 37) (Blank (suc (front_length is_in_line bs))) _ (λ is. tt)
    (λ is. chosen (b == 39) (quoted [] false 1 bs) (symbol (single b) b bs) (λ is. quoted_formed bs [] false 1 refl) (λ is. symbol_formed (single b) b bs (single_formed b)))))))))

pub scanned_formed : (bs : List ℕ) → IsFormedScan (scanned bs)
unfolding scanned
scanned_formed [] = tt
scanned_formed (b ∷ bs) = from_formed b bs

-- the tokens of a stream
abbrev IsFormedStream : Stream → Type 0
IsFormedStream (next at t st) = (is_formed_token t ≡ true) × IsFormedStream st
IsFormedStream (ends at) = Unit {0}
IsFormedStream (bad at e) = Unit {0}

stream_formed : (bs : List ℕ) (k at : ℕ) → IsFormedStream (stream k at bs)
stream_formed [] k at = tt
stream_formed (b ∷ bs) (suc k) at = stream_formed bs k (suc at)
stream_formed (b ∷ bs) zero at =
    elim (scanned (b ∷ bs)) as (λ (s : Scan). IsFormedScan s → IsFormedStream (elim s [ End ↦ ends at | Blank n ↦ stream (n - 1) (suc at) bs | Found t n ↦ next at t (stream (n - 1) (suc at) bs) | Wrong n e ↦ bad (at + n) e ])) [
      | End ↦ λ p. tt
      | Blank n ↦ λ p. stream_formed bs (n - 1) (suc at)
      | Found t n ↦ λ p. (p, stream_formed bs (n - 1) (suc at))
      | Wrong n e ↦ λ p. tt
    ] (scanned_formed (b ∷ bs))

begins_formed : (st rest : Stream) (ts : List Token) → Begins st ts rest → IsFormedStream st → AreFormedTokens ts
begins_formed st rest ts (here st') p = tt
begins_formed st rest ts (behind at t st' rest' ts' b) p = (p.0, begins_formed st' rest' ts' b p.1)

pub tokens_formed : (bs : List ℕ) (rest : Stream) (ts : List Token) → Begins (stream 0 0 bs) ts rest → AreFormedTokens ts
tokens_formed bs rest ts b = begins_formed (stream 0 0 bs) rest ts b (stream_formed bs 0 0)

-- the same as what a function answers of a text
pub formed_scan : (bs : List ℕ) (r : Result Scan AllocError) → IfOk r (λ s. s ≡ scanned bs) → IfOk r IsFormedScan
formed_scan bs (Ok s) is = subst IsFormedScan (sym is) (scanned_formed bs)
formed_scan bs (Err e) is = tt

whole_formed : (s : Scan) (n : ℕ) → IsFormedScan s → IfSome (whole_variable s n) IsFormedVar
whole_formed (Found (Variable v) k) n p = elim (k == n) as (λ (b : Bool). IfSome (if b then Some v else None) IsFormedVar) [ true ↦ p | false ↦ tt ]
whole_formed s n p = tt

pub formed_variable : (bs : List ℕ) (r : Result (Option Var) AllocError) → IfOk r (λ v. v ≡ whole_variable (scanned bs) (length bs)) → IfOk r (λ v. IfSome v IsFormedVar)
formed_variable bs (Ok v) is = subst (λ (o : Option Var). IfSome o IsFormedVar) (sym is) (whole_formed (scanned bs) (length bs) (scanned_formed bs))
formed_variable bs (Err e) is = tt
