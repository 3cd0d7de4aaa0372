-- How a reader of bytes goes on.
use Rattle.std.proofs.Common.{◌≡◌, ℕ, ◌+◌, ◌-◌, ◌≤◌, List, [], ◌∷◌, length, drop, length-drop, Result, Ok, Err, refl, sym, ◌∙◌, ap, subst, arith}
use Rattle.tptp_tokens.specs.declared.tokens.Token.{Token}
use Rattle.tptp_tokens.specs.declared.tokens.TextKind.{TextKind}
use Rattle.tptp_tokens.specs.declared.tokens.TextFault.{TextFault}
use Rattle.tptp_tokens.specs.declared.tokens.Scan.{Scan}
use Rattle.tptp_tokens.specs.declared.tokens.Scan.TheVariants.{Blank, Found, Wrong}
use Rattle.tptp_tokens.specs.Lexer.{scanned, IsSized}
use Rattle.tptp_tokens.specs.Stream.{Stream, stream}
use Rattle.tptp_tokens.proofs.Lexing.{blank_front, found_front, wrong_front}
use Rattle.tptp_read.specs.declared.errors.TextError.{TextError}
use Rattle.tptp_read.specs.declared.errors.TextError.TheVariants.{Memory as TextMemory, Text}
use Rattle.tptp_read.specs.declared.state.Limits.{Limits}
use Rattle.tptp_read.specs.declared.state.Outcome.{Outcome}
use Rattle.tptp_read.specs.Given.{meaning, GivesText}
use Rattle.tptp_read.specs.Reader.{◌>>=◌}
use Rattle.tptp_read.specs.Machine.{Reading, step, ending}
use Rattle.tptp_read.specs.Texts.{placed, read}

-- what the bytes `rest` of a text of n bytes give, which are its last ones
abbrev pub read_rest : Limits → Reading → ℕ → List ℕ → Result Outcome TextFault
read_rest lim r n rest = read lim r (stream 0 (n - length rest) rest)

place_on : (n k : ℕ) (rest : List ℕ) → k ≤ length rest → length rest ≤ n → (n - length rest) + k ≡ n - length (drop k rest)
place_on n k rest fits whole = omega (arith, length-drop k rest)

pub blank_on : (lim : Limits) (r : Reading) (n k : ℕ) (rest : List ℕ) → scanned rest ≡ Blank k → 1 ≤ k → k ≤ length rest → length rest ≤ n → read_rest lim r n rest ≡ read_rest lim r n (drop k rest)
blank_on lim r n k rest is some fits whole =
    ap (λ (st : Stream). read lim r st) (blank_front k (n - length rest) rest is some fits)
    ∙ ap (λ (at : ℕ). read lim r (stream 0 at (drop k rest))) (place_on n k rest fits whole)

pub found_on : (lim : Limits) (r : Reading) (t : Token) (n k : ℕ) (rest : List ℕ) → scanned rest ≡ Found t k → 1 ≤ k → k ≤ length rest → length rest ≤ n → read_rest lim r n rest ≡ (placed (n - length rest) (step lim r t) >>= λ (s : Reading). read_rest lim s n (drop k rest))
found_on lim r t n k rest is some fits whole =
    ap (λ (st : Stream). read lim r st) (found_front t k (n - length rest) rest is some fits)
    ∙ ap (λ (at : ℕ). placed (n - length rest) (step lim r t) >>= λ (s : Reading). read lim s (stream 0 at (drop k rest))) (place_on n k rest fits whole)

-- a token that is taken, and one that isn't
pub found_step : (lim : Limits) (r s : Reading) (t : Token) (n k : ℕ) (rest : List ℕ) → scanned rest ≡ Found t k → 1 ≤ k → k ≤ length rest → length rest ≤ n → placed (n - length rest) (step lim r t) ≡ Ok s → read_rest lim r n rest ≡ read_rest lim s n (drop k rest)
found_step lim r s t n k rest is some fits whole made =
    found_on lim r t n k rest is some fits whole ∙ ap (λ (x : Result Reading TextFault). x >>= λ (z : Reading). read_rest lim z n (drop k rest)) made

pub found_stop : (lim : Limits) (r : Reading) (t : Token) (n k : ℕ) (rest : List ℕ) (e : TextFault) → scanned rest ≡ Found t k → 1 ≤ k → k ≤ length rest → length rest ≤ n → placed (n - length rest) (step lim r t) ≡ Err e → read_rest lim r n rest ≡ Err e
found_stop lim r t n k rest e is some fits whole made =
    found_on lim r t n k rest is some fits whole ∙ ap (λ (x : Result Reading TextFault). x >>= λ (z : Reading). read_rest lim z n (drop k rest)) made

-- the error of a token is that of the whole text
pub token_error : (lim : Limits) (r : Reading) (scan : Scan) (t : Token) (n k : ℕ) (rest : List ℕ) (e : TextError) (whole : Result Outcome TextFault) → scan ≡ scanned rest → IsSized scan (length rest) → scan ≡ Found t k → length rest ≤ n → GivesText meaning (Err e) (placed (n - length rest) (step lim r t)) → read_rest lim r n rest ≡ whole → GivesText (λ (w : Outcome). w) (Err e) whole
token_error lim r scan t n k rest TextMemory whole value sized is fits made same = tt
token_error lim r scan t n k rest (Text e) whole value sized is fits made same =
    let size : IsSized (Found t k) (length rest) = subst (λ (s : Scan). IsSized s (length rest)) is sized in
    sym same ∙ found_stop lim r t n k rest e (sym value ∙ is) size.0 size.1 fits made

pub wrong_on : (lim : Limits) (r : Reading) (e : TextKind) (n k : ℕ) (rest : List ℕ) → scanned rest ≡ Wrong k e → read_rest lim r n rest ≡ Err (record { at = (n - length rest) + k; kind = e })
wrong_on lim r e n k rest is = ap (λ (st : Stream). read lim r st) (wrong_front e k (n - length rest) rest is)

pub end_on : (lim : Limits) (r : Reading) (n : ℕ) (rest : List ℕ) → length rest ≡ 0 → read_rest lim r n rest ≡ placed (n - length rest) (ending r)
end_on lim r n [] none = refl
end_on lim r n (b ∷ bs) none = absurd (omega arith)
