-- Atoms without variables have a unifier only where they are equal, and then they have a mark in common.
use Rattle.std.proofs.Common.{◌≡◌, ℕ, ◌%◌, false, List, [], ◌∷◌, sym, ap, subst, ◌∙◌, arith}
use Rattle.std.specs.Prelude.{Contains, Option, bit_or, bit_and}
use Rattle.std.specs.Int.{bit_at}
use Rattle.std.specs.List.{list_any}
use Rattle.std.proofs.lemmas.Bool.{or_parts}
use Rattle.std.proofs.lemmas.Nat.{pow_pos}
use Rattle.std.proofs.lemmas.Nat.Bits.{bit_at_or, bit_at_and, bit_at-zero, same_from_bits}
use Rattle.fol.specs.declared.symbols.Var.{Var}
use Rattle.fol.specs.Syntax.{Term, Formula}
use Rattle.fol.specs.Facts.{is_open, formula_fingerprint}
use Rattle.substitution.specs.Image.{image}
use Rattle.substitution.proofs.Shut.{image-shut}
use Rattle.clause_laws.proofs.Lists.{contains_none, from_contains}
use Rattle.res_prover.specs.Marks.{IsMaskWithin, bit_of}
use Rattle.res_prover.specs.GroundAtoms.{some_open, whole_marks}
use Rattle.res_prover.proofs.Masks.{mask_itself, within_left, within_right}

abbrev whole : Formula → ℕ
whole f = bit_of (formula_fingerprint f)

has_whole : (fs : List Formula) (f : Formula) → Contains fs f → IsMaskWithin (whole f) (whole_marks fs)
has_whole [] f at = absurd (contains_none f at)
has_whole (g ∷ fs) f at =
    from_contains g fs f
    (λ here. within_left (whole f) (whole g) (whole_marks fs) (subst (λ h. IsMaskWithin (whole f) (whole h)) (sym here) (mask_itself (whole f))))
    (λ later. within_right (whole f) (whole g) (whole_marks fs) (has_whole fs f later))
    at

shut_member : (fs : List Formula) (f : Formula) → some_open fs ≡ false → Contains fs f → is_open f ≡ false
shut_member [] f e at = absurd (contains_none f at)
shut_member (g ∷ fs) f e at =
    let parts = or_parts (is_open g) (list_any is_open fs) e in
    from_contains g fs f (λ here. ap is_open (sym here) ∙ parts.0) (λ later. shut_member fs f parts.1 later) at

common : (k a b : ℕ) → IsMaskWithin k a → IsMaskWithin k b → bit_and a b ≡ 0 → k ≡ 0
common k a b one two none = same_from_bits k 0 (λ i.
    let in_a = bit_at_or k a i in
    let in_b = bit_at_or k b i in
    let both = bit_at_and a b i in
    let same_a : bit_at (bit_or k a) i ≡ bit_at a i = ap (λ n. bit_at n i) one in
    let same_b : bit_at (bit_or k b) i ≡ bit_at b i = ap (λ n. bit_at n i) two in
    let nothing : bit_at (bit_and a b) i ≡ bit_at 0 i = ap (λ n. bit_at n i) none in
    let zero = bit_at-zero i in
    omega arith)

bit_some : (n : ℕ) → bit_of n ≡ 0 → ⊥
unfolding bit_of
bit_some n e = omega (arith, pow_pos (n % 64))

pub none_unified : (fs gs : List Formula) → some_open fs ≡ false → some_open gs ≡ false → bit_and (whole_marks fs) (whole_marks gs) ≡ 0
    → (f g : Formula) → Contains fs f → Contains gs g → (h : Var → Option Term) → image h f ≡ image h g → ⊥
none_unified fs gs shut_f shut_g apart f g at_f at_g h e =
    let same : f ≡ g = sym (image-shut h f (shut_member fs f shut_f at_f)) ∙ e ∙ image-shut h g (shut_member gs g shut_g at_g) in
    bit_some (formula_fingerprint f) (common (whole f) (whole_marks fs) (whole_marks gs) (has_whole fs f at_f) (subst (λ q. IsMaskWithin (whole q) (whole_marks gs)) (sym same) (has_whole gs g at_g)) apart)
