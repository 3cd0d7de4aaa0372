-- What stands at the front of a text: white space or a comment, the longest possible token, or a fault.
use Rattle.std.specs.Prelude.{◌≡◌, ℕ, suc, ◌-◌, ◌≤◌, Bool, true, false, ◌==◌, ◌&&◌, ◌||◌, if◌then◌else◌, List, [], ◌∷◌, ◌++◌, take, Option, Some, None, codes}
use Rattle.std.specs.Char.{is_ascii_uppercase, is_ascii_lowercase, is_ascii_digit}
use Rattle.std.specs.Str.{bytes_eq}
use Rattle.fol.specs.declared.symbols.Var.{Var}
use Rattle.fol.specs.declared.symbols.Var.TheVariants.{Word, Num}
use Rattle.fol.specs.Formed.{is_printable, is_word_byte}
use Rattle.fol.specs.Numbered.{number_of_text}
use Rattle.tptp_tokens.specs.declared.tokens.Quantifier.TheVariants.{All, Ex}
use Rattle.tptp_tokens.specs.declared.tokens.ChainOperator.TheVariants.{And, Or}
use Rattle.tptp_tokens.specs.declared.tokens.BinaryOperator.TheVariants.{Implies, ImpliedBy, Equivalent, Different, Nor, Nand}
use Rattle.tptp_tokens.specs.declared.tokens.Token.{Token}
use Rattle.tptp_tokens.specs.declared.tokens.Token.TheVariants.{Name, Variable, Truth, Equality, Negation, Quantifier, Chain, Binary, Open, Close, OpenSquare, CloseSquare, Comma, Dot, Colon}
use Rattle.tptp_tokens.specs.declared.tokens.TextKind.TheVariants.{Token as NoToken, DefinedWord, Number, Distinct, OpenQuote, OpenComment}
use Rattle.tptp_tokens.specs.declared.tokens.Scan.{Scan}
use Rattle.tptp_tokens.specs.declared.tokens.Scan.TheVariants.{End, Blank, Found, Wrong}

-- how many bytes at the front pass a test
abbrev pub front_length : (ℕ → Bool) → List ℕ → ℕ
front_length p [] = 0
front_length p (b ∷ bs) = if p b then suc (front_length p bs) else 0

-- whether a text begins with this byte
abbrev pub begins : ℕ → List ℕ → Bool
begins c [] = false
begins c (b ∷ bs) = b == c

-- space, tab, newline and carriage return
abbrev pub is_blank : ℕ → Bool
is_blank b = b == 32 || b == 9 || b == 10 || b == 13

-- a byte of a comment that goes to the end of the line
abbrev pub is_in_line : ℕ → Bool
is_in_line b = if b == 10 then false else true

-- the word at the front, from a first byte that is given
abbrev pub word_at : ℕ → List ℕ → List ℕ
word_at b bs = b ∷ take (front_length is_word_byte bs) bs

abbrev pub word_length : List ℕ → ℕ
word_length bs = suc (front_length is_word_byte bs)

-- the variable that a word is
abbrev pub variable_of : List ℕ → Option ℕ → Var
variable_of x None = Word x
variable_of x (Some n) = Num n

-- `$true` and `$false`; `word` is what stands behind the `$`
abbrev pub defined : List ℕ → ℕ → Scan
defined word n =
    if bytes_eq word (codes "true") then Found (Truth true) n
    else (if bytes_eq word (codes "false") then Found (Truth false) n else Wrong 0 DefinedWord)

-- the end of the quotes around a name; n bytes stand before it
abbrev pub quoted_name : List ℕ → ℕ → Scan
quoted_name [] n = Wrong 0 NoToken
quoted_name (b ∷ bs) n = Found (Name (b ∷ bs)) (suc n)

-- A name in quotes. `name` has been read so far, in n bytes with the opening quote; `escaping` says that the last one is a `\`, behind
-- which `'` and `\` alone may stand.
abbrev pub quoted : List ℕ → Bool → ℕ → List ℕ → Scan
quoted name escaping n [] = Wrong 0 OpenQuote
quoted name true n (b ∷ bs) = if b == 39 || b == 92 then quoted (name ++ b ∷ []) false (suc n) bs else Wrong (n - 1) NoToken
quoted name false n (b ∷ bs) =
    if b == 39 then quoted_name name n
    else (if b == 92 then quoted name true (suc n) bs
    else (if is_printable b then quoted (name ++ b ∷ []) false (suc n) bs else Wrong n NoToken))

-- A comment from `/*` to the next `*/`. n of its bytes are passed; `star` says that the last one is a `*` that isn't the opening one.
abbrev pub comment : Bool → ℕ → List ℕ → Scan
comment star n [] = Wrong 0 OpenComment
comment star n (b ∷ bs) = if star && b == 47 then Blank (suc n) else comment (b == 42) (suc n) bs

-- a token of one byte that begins no other token
abbrev pub single : ℕ → Option Token
single b =
    if b == 40 then Some Open
    else (if b == 41 then Some Close
    else (if b == 91 then Some OpenSquare
    else (if b == 93 then Some CloseSquare
    else (if b == 44 then Some Comma
    else (if b == 46 then Some Dot
    else (if b == 58 then Some Colon
    else (if b == 63 then Some (Quantifier Ex)
    else (if b == 38 then Some (Chain And)
    else (if b == 124 then Some (Chain Or)
    else None)))))))))

-- `!` and `!=`
abbrev pub exclamation : List ℕ → Scan
exclamation bs = if begins 61 bs then Found (Equality false) 2 else Found (Quantifier All) 1

-- `=` and `=>`
abbrev pub equals : List ℕ → Scan
equals bs = if begins 62 bs then Found (Binary Implies) 2 else Found (Equality true) 1

-- `~`, `~|` and `~&`
abbrev pub tilde : List ℕ → Scan
tilde bs =
    if begins 124 bs then Found (Binary Nor) 2 else (if begins 38 bs then Found (Binary Nand) 2 else Found Negation 1)

-- `<=`, `<=>` and `<~>`
abbrev pub less : List ℕ → Scan
less [] = Wrong 0 NoToken
less (b ∷ bs) =
    if b == 61 then (if begins 62 bs then Found (Binary Equivalent) 3 else Found (Binary ImpliedBy) 2)
    else (if b == 126 && begins 62 bs then Found (Binary Different) 3 else Wrong 0 NoToken)

-- `/` begins a comment or nothing
abbrev pub slash : List ℕ → Scan
slash [] = Wrong 0 NoToken
slash (b ∷ bs) = if b == 42 then comment false 2 bs else Wrong 0 NoToken

-- a sign before a digit begins a number
abbrev pub sign : List ℕ → Scan
sign [] = Wrong 0 NoToken
sign (b ∷ bs) = if is_ascii_digit b then Wrong 0 Number else Wrong 0 NoToken

-- a token that may go on
abbrev pub longer : ℕ → List ℕ → Scan
longer b bs =
    if b == 33 then exclamation bs
    else (if b == 61 then equals bs
    else (if b == 126 then tilde bs
    else (if b == 60 then less bs
    else (if b == 47 then slash bs
    else (if b == 43 || b == 45 then sign bs else Wrong 0 NoToken)))))

abbrev pub symbol : Option Token → ℕ → List ℕ → Scan
symbol (Some t) b bs = Found t 1
symbol None b bs = longer b bs

-- words, quotes and comments, by their first byte
abbrev pub scanned_from : ℕ → List ℕ → Scan
scanned_from b bs =
    if is_blank b then Blank 1
    else (if is_ascii_lowercase b then Found (Name (word_at b bs)) (word_length bs)
    else (if is_ascii_uppercase b then Found (Variable (variable_of (word_at b bs) (number_of_text (word_at b bs)))) (word_length bs)
    else (if is_ascii_digit b then Wrong 0 Number
    else (if b == 34 then Wrong 0 Distinct
    else (if b == 36 then defined (take (front_length is_word_byte bs) bs) (word_length bs)
    else (if b == 37 then Blank (suc (front_length is_in_line bs))
    else (if b == 39 then quoted [] false 1 bs else symbol (single b) b bs)))))))

-- what stands at the front
unfoldable pub scanned : List ℕ → Scan
scanned [] = End
scanned (b ∷ bs) = scanned_from b bs

-- the variable that a text of n bytes is as a whole, with s at its front
abbrev pub whole_variable : Scan → ℕ → Option Var
whole_variable (Found (Variable v) k) n = if k == n then Some v else None
whole_variable s n = None

-- what stands at the front has a length, and is no longer than the text
abbrev pub IsSized : Scan → ℕ → Type 0
IsSized End n = n ≡ 0
IsSized (Blank k) n = (1 ≤ k) × (k ≤ n)
IsSized (Found t k) n = (1 ≤ k) × (k ≤ n)
IsSized (Wrong k e) n = k ≤ n
