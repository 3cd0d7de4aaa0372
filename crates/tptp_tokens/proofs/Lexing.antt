-- How the stream of a text goes on behind what stands at its front.
use Rattle.std.proofs.Common.{◌≡◌, ℕ, zero, suc, ◌+◌, ◌-◌, ◌≤◌, List, [], ◌∷◌, length, drop, refl, sym, ◌∙◌, ap, add-zero, arith}
use Rattle.tptp_tokens.specs.declared.tokens.Token.{Token}
use Rattle.tptp_tokens.specs.declared.tokens.TextKind.{TextKind}
use Rattle.tptp_tokens.specs.declared.tokens.Scan.TheVariants.{Blank, Found, Wrong}
use Rattle.tptp_tokens.specs.Lexer.{scanned}
use Rattle.tptp_tokens.specs.Stream.{Stream, next, bad, stream}

-- bytes that are passed
stream_passed : (k at : ℕ) (bs : List ℕ) → k ≤ length bs → stream k at bs ≡ stream 0 (at + k) (drop k bs)
stream_passed zero at bs fits = ap (λ (a : ℕ). stream 0 a bs) (sym (add-zero at))
stream_passed (suc k) at [] fits = absurd (omega arith)
stream_passed (suc k) at (b ∷ bs) fits =
    let place : suc at + k ≡ at + suc k = omega arith in
    stream_passed k (suc at) bs (omega arith) ∙ ap (λ (a : ℕ). stream 0 a (drop k bs)) place

-- behind the first of n bytes
behind_first : (n at : ℕ) (bs : List ℕ) → suc n ≤ suc (length bs) → stream (suc n - 1) (suc at) bs ≡ stream 0 (at + suc n) (drop n bs)
behind_first n at bs fits =
    let count : suc n - 1 ≡ n = omega arith in
    let place : suc at + n ≡ at + suc n = omega arith in
    ap (λ (k : ℕ). stream k (suc at) bs) count
    ∙ (stream_passed n (suc at) bs (omega arith) ∙ ap (λ (a : ℕ). stream 0 a (drop n bs)) place)

-- white space and comments are passed
pub blank_front : (n at : ℕ) (bs : List ℕ) → scanned bs ≡ Blank n → 1 ≤ n → n ≤ length bs → stream 0 at bs ≡ stream 0 (at + n) (drop n bs)
blank_front zero at bs is some fits = absurd (omega arith)
blank_front (suc n) at [] is some fits = absurd (omega arith)
blank_front (suc n) at (b ∷ bs) is some fits = rw (is, stream) (behind_first n at bs fits)

-- a token is the next one
pub found_front : (t : Token) (n at : ℕ) (bs : List ℕ) → scanned bs ≡ Found t n → 1 ≤ n → n ≤ length bs → stream 0 at bs ≡ next at t (stream 0 (at + n) (drop n bs))
found_front t zero at bs is some fits = absurd (omega arith)
found_front t (suc n) at [] is some fits = absurd (omega arith)
found_front t (suc n) at (b ∷ bs) is some fits = rw (is, stream) (ap (λ (st : Stream). next at t st) (behind_first n at bs fits))

-- a fault ends the stream
pub wrong_front : (e : TextKind) (n at : ℕ) (bs : List ℕ) → scanned bs ≡ Wrong n e → stream 0 at bs ≡ bad (at + n) e
unfolding scanned
wrong_front e n at [] is = cc
wrong_front e n at (b ∷ bs) is = rw (is, stream) refl
