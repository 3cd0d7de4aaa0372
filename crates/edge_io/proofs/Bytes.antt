-- Steps over the bytes of a piece.
use Rattle.std.proofs.Common.{◌≡◌, ℕ, ◌+◌, ◌-◌, ◌<◌, ◌≤◌, min, List, [], ◌++◌, length, take, drop, sym, ap, ◌∙◌, subst, arith, length-take, length-drop, length-append, take-append-drop}
use Rattle.std.proofs.lemmas.List.{take_rest, take_at, drop-drop, drop_all}
use Rattle.std.proofs.Math.Seq.{take-add}
use Rattle.std.specs.Prelude.{Option}
use Rattle.std.specs.Io.KnownBytes.{Appends}
use Rattle.std.proofs.KnownBytes.{Appends-trans}

-- the front of a piece was appended, and then the front of its rest
pub appends_more : (a b c : Option (List ℕ)) (xs : List ℕ) (i n : ℕ) → Appends a b (take i xs)
    → Appends b c (take n (take (length xs - i) (drop i xs))) → Appends a c (take (i + n) xs)
appends_more a b c xs i n first second =
    let joined : take i xs ++ take n (take (length xs - i) (drop i xs)) ≡ take (i + n) xs =
    ap (λ (l : List ℕ). take i xs ++ take n l) (take_rest xs i) ∙ sym (take-add i n xs) in
    subst (λ (l : List ℕ). Appends a c l) joined (Appends-trans a b c _ _ first second)

-- a read copied the n bytes at a place to the front of a buffer, and n is 0 only where no byte is left or there is no room
pub read_at : (bytes copied buf : List ℕ) (at piece n : ℕ) → at ≤ length bytes → 0 < piece
    → n ≡ min piece (min (length buf) (length bytes - at)) → copied ≡ take n (drop at bytes)
    → (drop at bytes ≡ take n (copied ++ drop n buf) ++ drop (at + n) bytes)
    × (n ≡ 0 → 0 < length (copied ++ drop n buf) → drop (at + n) bytes ≡ [])
read_at bytes copied buf at piece n within some is copy =
    let size : length copied ≡ n = omega (arith, ap length copy, length-take n (drop at bytes), length-drop at bytes) in
    let front : take n (copied ++ drop n buf) ≡ copied = take_at copied (drop n buf) n size in
    let rest : drop n (drop at bytes) ≡ drop (at + n) bytes = drop-drop n at bytes in (
      sym (take-append-drop n (drop at bytes)) ∙ ap (λ (l : List ℕ). l ++ drop n (drop at bytes)) (sym (front ∙ copy))
          ∙ ap (λ (l : List ℕ). take n (copied ++ drop n buf) ++ l) rest,
      λ none room. drop_all (at + n) bytes (omega (arith, length-append copied (drop n buf), length-drop n buf)),
    )
