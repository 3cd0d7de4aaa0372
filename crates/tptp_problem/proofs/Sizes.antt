-- What stands at the front of a text is no longer than the text.
use Rattle.std.proofs.Common.{◌≡◌, ℕ, suc, ◌+◌, ◌-◌, ◌≤◌, Bool, true, false, ◌==◌, ◌&&◌, ◌||◌, if◌then◌else◌, List, [], ◌∷◌, ◌++◌, length, take, Option, Some, None, codes, refl, arith}
use Rattle.std.specs.Char.{is_ascii_uppercase, is_ascii_lowercase, is_ascii_digit}
use Rattle.std.specs.Str.{bytes_eq}
use Rattle.std.proofs.lemmas.Bool.{and_parts}
use Rattle.fol.specs.Formed.{is_printable, is_word_byte}
use Rattle.fol.specs.Numbered.{number_of_text}
use Rattle.tptp_tokens.specs.declared.tokens.Quantifier.TheVariants.{All}
use Rattle.tptp_tokens.specs.declared.tokens.BinaryOperator.TheVariants.{Implies, ImpliedBy, Equivalent, Different, Nor, Nand}
use Rattle.tptp_tokens.specs.declared.tokens.Token.{Token}
use Rattle.tptp_tokens.specs.declared.tokens.Token.TheVariants.{Name, Variable, Truth, Equality, Negation, Quantifier, Binary}
use Rattle.tptp_tokens.specs.declared.tokens.TextKind.TheVariants.{Token as NoToken, DefinedWord, Number, Distinct}
use Rattle.tptp_tokens.specs.declared.tokens.Scan.{Scan}
use Rattle.tptp_tokens.specs.declared.tokens.Scan.TheVariants.{Blank, Found, Wrong}
use Rattle.tptp_tokens.specs.Lexer.{front_length, begins, is_blank, is_in_line, word_at, word_length, variable_of, defined, quoted_name, quoted, comment, single, exclamation, equals, tilde, less, slash, sign, longer, symbol, scanned_from, scanned, IsSized}

-- a choice
chosen : (m : ℕ) (b : Bool) (x y : Scan) → (b ≡ true → IsSized x m) → (b ≡ false → IsSized y m) → IsSized (if b then x else y) m
chosen m true x y f g = f refl
chosen m false x y f g = g refl

pub front_fits : (p : ℕ → Bool) (bs : List ℕ) → front_length p bs ≤ length bs
front_fits p [] = omega arith
front_fits p (b ∷ bs) = let rest : front_length p bs ≤ length bs = front_fits p bs in elim (p b) as (λ (t : Bool). (if t then suc (front_length p bs) else 0) ≤ suc (length bs)) [ true ↦ omega arith | false ↦ omega arith ]

begins_fits : (c : ℕ) (bs : List ℕ) → begins c bs ≡ true → 1 ≤ length bs
begins_fits c [] is = cc
begins_fits c (b ∷ bs) is = omega arith

quoted_name_sized : (x : List ℕ) (n m : ℕ) → suc n ≤ m → IsSized (quoted_name x n) m
quoted_name_sized [] n m fits = omega arith
quoted_name_sized (b ∷ bs) n m fits = (omega arith, fits)

quoted_sized : (bs x : List ℕ) (escaping : Bool) (n m : ℕ) → n + length bs ≤ m → IsSized (quoted x escaping n bs) m
quoted_sized [] x true n m fits = omega arith
quoted_sized [] x false n m fits = omega arith
quoted_sized (b ∷ bs) x true n m fits =
    chosen m (b == 39 || b == 92) (quoted (x ++ b ∷ []) false (suc n) bs) (Wrong (n - 1) NoToken) (λ is. quoted_sized bs (x ++ b ∷ []) false (suc n) m (omega arith)) (λ is. omega arith)
quoted_sized (b ∷ bs) x false n m fits =
    chosen m (b == 39) (quoted_name x n) (if b == 92 then quoted x true (suc n) bs else (if is_printable b then quoted (x ++ b ∷ []) false (suc n) bs else Wrong n NoToken)) (λ is. quoted_name_sized x n m (omega arith))
    (λ other. chosen m (b == 92) (quoted x true (suc n) bs) (if is_printable b then quoted (x ++ b ∷ []) false (suc n) bs else Wrong n NoToken) (λ is. quoted_sized bs x true (suc n) m (omega arith))
    (λ none. chosen m (is_printable b) (quoted (x ++ b ∷ []) false (suc n) bs) (Wrong n NoToken) (λ is. quoted_sized bs (x ++ b ∷ []) false (suc n) m (omega arith)) (λ is. omega arith)))

comment_sized : (bs : List ℕ) (star : Bool) (n m : ℕ) → n + length bs ≤ m → IsSized (comment star n bs) m
comment_sized [] star n m fits = omega arith
comment_sized (b ∷ bs) star n m fits = chosen m (star && b == 47) (Blank (suc n)) (comment (b == 42) (suc n) bs) (λ is. (omega arith, omega arith)) (λ is. comment_sized bs (b == 42) (suc n) m (omega arith))

defined_sized : (x : List ℕ) (n m : ℕ) → 1 ≤ n → n ≤ m → IsSized (defined x n) m
defined_sized x n m some fits =
    chosen m (bytes_eq x (codes "true")) (Found (Truth true) n) (if bytes_eq x (codes "false") then Found (Truth false) n else Wrong 0 DefinedWord) (λ is. (some, fits))
    (λ is. chosen m (bytes_eq x (codes "false")) (Found (Truth false) n) (Wrong 0 DefinedWord) (λ is. (some, fits)) (λ is. omega arith))

exclamation_sized : (bs : List ℕ) → IsSized (exclamation bs) (suc (length bs))
exclamation_sized bs = chosen (suc (length bs)) (begins 61 bs) (Found (Equality false) 2) (Found (Quantifier All) 1) (λ is. (omega arith, omega (arith, begins_fits 61 bs is))) (λ is. (omega arith, omega arith))

equals_sized : (bs : List ℕ) → IsSized (equals bs) (suc (length bs))
equals_sized bs = chosen (suc (length bs)) (begins 62 bs) (Found (Binary Implies) 2) (Found (Equality true) 1) (λ is. (omega arith, omega (arith, begins_fits 62 bs is))) (λ is. (omega arith, omega arith))

tilde_sized : (bs : List ℕ) → IsSized (tilde bs) (suc (length bs))
tilde_sized bs =
    chosen (suc (length bs)) (begins 124 bs) (Found (Binary Nor) 2) (if begins 38 bs then Found (Binary Nand) 2 else Found Negation 1) (λ is. (omega arith, omega (arith, begins_fits 124 bs is)))
    (λ is. chosen (suc (length bs)) (begins 38 bs) (Found (Binary Nand) 2) (Found Negation 1) (λ is. (omega arith, omega (arith, begins_fits 38 bs is))) (λ is. (omega arith, omega arith)))

less_sized : (bs : List ℕ) → IsSized (less bs) (suc (length bs))
less_sized [] = omega arith
less_sized (b ∷ bs) =
    chosen (suc (suc (length bs))) (b == 61) (if begins 62 bs then Found (Binary Equivalent) 3 else Found (Binary ImpliedBy) 2) (if b == 126 && begins 62 bs then Found (Binary Different) 3 else Wrong 0 NoToken)
    (λ is. chosen (suc (suc (length bs))) (begins 62 bs) (Found (Binary Equivalent) 3) (Found (Binary ImpliedBy) 2) (λ on. (omega arith, omega (arith, begins_fits 62 bs on))) (λ off. (omega arith, omega arith)))
    (λ is. chosen (suc (suc (length bs))) (b == 126 && begins 62 bs) (Found (Binary Different) 3) (Wrong 0 NoToken) (λ on. (omega arith, omega (arith, begins_fits 62 bs (and_parts (b == 126) (begins 62 bs) on).1))) (λ off. omega arith))

slash_sized : (bs : List ℕ) → IsSized (slash bs) (suc (length bs))
slash_sized [] = omega arith
slash_sized (b ∷ bs) = chosen (suc (suc (length bs))) (b == 42) (comment false 2 bs) (Wrong 0 NoToken) (λ is. comment_sized bs false 2 (suc (suc (length bs))) (omega arith)) (λ is. omega arith)

sign_sized : (bs : List ℕ) → IsSized (sign bs) (suc (length bs))
sign_sized [] = omega arith
sign_sized (b ∷ bs) = chosen (suc (suc (length bs))) (is_ascii_digit b) (Wrong 0 Number) (Wrong 0 NoToken) (λ is. omega arith) (λ is. omega arith)

longer_sized : (b : ℕ) (bs : List ℕ) → IsSized (longer b bs) (suc (length bs))
longer_sized b bs =
    let m : ℕ = suc (length bs) in
    chosen m (b == 33) (exclamation bs) _ (λ is. exclamation_sized bs) (λ is. chosen m (b == 61) (equals bs) _ (λ is. equals_sized bs) (λ is. chosen m (b == 126) (tilde bs) _ (λ is. tilde_sized bs)
    (λ is. chosen m (b == 60) (less bs) _ (λ is. less_sized bs) (λ is. chosen m (b == 47) (slash bs) _ (λ is. slash_sized bs) (λ is. chosen m (b == 43 || b == 45) (sign bs) (Wrong 0 NoToken) (λ is. sign_sized bs) (λ is. omega arith))))))

symbol_sized : (o : Option Token) (b : ℕ) (bs : List ℕ) → IsSized (symbol o b bs) (suc (length bs))
symbol_sized None b bs = longer_sized b bs
symbol_sized (Some t) b bs = (omega arith, omega arith)

word_sized : (bs : List ℕ) → word_length bs ≤ suc (length bs)
word_sized bs = omega (arith, front_fits is_word_byte bs)

from_sized : (b : ℕ) (bs : List ℕ) → IsSized (scanned_from b bs) (suc (length bs))
from_sized b bs =
    let m : ℕ = suc (length bs) in
    let w : word_length bs ≤ suc (length bs) = word_sized bs in
    let line : front_length is_in_line bs ≤ length bs = front_fits is_in_line bs in
    chosen m (is_blank b) (Blank 1) _ (λ is. (omega arith, omega arith)) (λ is. chosen m (is_ascii_lowercase b) (Found (Name (word_at b bs)) (word_length bs)) _ (λ is. (omega arith, w))
    (λ is. chosen m (is_ascii_uppercase b) (Found (Variable (variable_of (word_at b bs) (number_of_text (word_at b bs)))) (word_length bs)) _ (λ is. (omega arith, w))
    (λ is. chosen m (is_ascii_digit b) (Wrong 0 Number) _ (λ is. omega arith) (λ is. chosen m (b == 34) (Wrong 0 Distinct) _ (λ is. omega arith)
    (λ is. chosen m (b == 36) (defined (take (front_length is_word_byte bs) bs) (word_length bs)) _ (λ is. defined_sized (take (front_length is_word_byte bs) bs) (word_length bs) m (omega arith) w)
    (λ is. chosen m (b == 37) (Blank (suc (front_length is_in_line bs))) _ (λ is. (omega arith, omega arith))
    (λ is. chosen m (b == 39) (quoted [] false 1 bs) (symbol (single b) b bs) (λ is. quoted_sized bs [] false 1 m (omega arith)) (λ is. symbol_sized (single b) b bs))))))))

pub scanned_sized : (bs : List ℕ) → IsSized (scanned bs) (length bs)
unfolding scanned
scanned_sized [] = refl
scanned_sized (b ∷ bs) = from_sized b bs
