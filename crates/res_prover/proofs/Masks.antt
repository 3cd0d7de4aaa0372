-- Masks: numbers whose bits say what a list has. One is within another where each of its bits is one of that.
use Rattle.std.proofs.Common.{◌≡◌, ℕ, refl, sym, ap, ◌∙◌, arith}
use Rattle.std.specs.Prelude.{bit_or}
use Rattle.std.proofs.lemmas.Nat.{or_comm}
use Rattle.std.proofs.lemmas.Nat.Bits.{bit_at_or, same_from_bits}
use Rattle.res_prover.specs.Marks.{IsMaskWithin}

pub mask_assoc : (a b c : ℕ) → bit_or (bit_or a b) c ≡ bit_or a (bit_or b c)
mask_assoc a b c = same_from_bits (bit_or (bit_or a b) c) (bit_or a (bit_or b c)) (λ i.
    let one = bit_at_or (bit_or a b) c i in
    let two = bit_at_or a b i in
    let three = bit_at_or a (bit_or b c) i in
    let four = bit_at_or b c i in
    omega arith)

pub mask_itself : (a : ℕ) → IsMaskWithin a a
mask_itself a = same_from_bits (bit_or a a) a (λ i. let one = bit_at_or a a i in omega arith)

pub no_mask : (a : ℕ) → IsMaskWithin 0 a
no_mask a = refl

pub within_left : (a b c : ℕ) → IsMaskWithin a b → IsMaskWithin a (bit_or b c)
within_left a b c h = sym (mask_assoc a b c) ∙ ap (λ x. bit_or x c) h

pub within_right : (a b c : ℕ) → IsMaskWithin a c → IsMaskWithin a (bit_or b c)
within_right a b c h = ap (bit_or a) (or_comm b c) ∙ within_left a c b h ∙ or_comm c b

pub both_within : (a b c : ℕ) → IsMaskWithin a c → IsMaskWithin b c → IsMaskWithin (bit_or a b) c
both_within a b c one two = mask_assoc a b c ∙ ap (bit_or a) two ∙ one

pub alike_within : (a b c d : ℕ) → IsMaskWithin a c → IsMaskWithin b d → IsMaskWithin (bit_or a b) (bit_or c d)
alike_within a b c d one two = both_within a b (bit_or c d) (within_left a c d one) (within_right b c d two)

pub mask_transitive : (a b c : ℕ) → IsMaskWithin a b → IsMaskWithin b c → IsMaskWithin a c
mask_transitive a b c one two = ap (bit_or a) (sym two) ∙ sym (mask_assoc a b c) ∙ ap (λ x. bit_or x c) one ∙ two
