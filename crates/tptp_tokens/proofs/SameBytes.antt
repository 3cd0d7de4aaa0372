-- A text of a first byte and more.
use Rattle.std.proofs.Common.{◌≡◌, ℕ, suc, ◌-◌, ◌≤◌, Bool, true, List, [], ◌∷◌, length, take, drop, get_or, sym, ◌∙◌, ap, arith}
use Rattle.std.specs.Str.{bytes_eq}
use Rattle.std.proofs.lemmas.Slice.Eq.{bytes_eq-Decides}
use Rattle.std.proofs.Math.Seq.{take-length}

-- its first byte and what stands behind that are those that are given
pub same_word : (bytes rest : List ℕ) (first : ℕ) (r : Bool) → r ≡ bytes_eq (take (length bytes - 1) (drop 1 bytes)) rest → get_or bytes 0 0 ≡ first → 1 ≤ length bytes → r ≡ true → bytes ≡ first ∷ rest
same_word [] rest first r is front some same = absurd (omega arith)
same_word (b ∷ bs) rest first r is front some same =
    let count : suc (length bs) - 1 ≡ length bs = omega arith in
    let all : take (suc (length bs) - 1) bs ≡ bs = ap (λ (k : ℕ). take k bs) count ∙ take-length bs in
    let behind : bs ≡ rest = sym all ∙ (bytes_eq-Decides (take (suc (length bs) - 1) bs) rest).0 (sym is ∙ same) in
    λ i. front i ∷ behind i
