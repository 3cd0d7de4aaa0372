-- Any two clauses have variants that are apart, and of clauses that are apart a map for each makes one for both.
use Rattle.std.proofs.Common.{◌≡◌, ◌+◌, ◌*◌, ◌/◌, ◌%◌, Bool, true, false, ◌==◌, if◌then◌else◌, [], ◌∷◌, Some, refl, ap, ◌∙◌, arith}
use Rattle.std.proofs.lemmas.Bool.{both_ways, false_from_ne_true}
use Rattle.fol.specs.declared.symbols.Var.{Var}
use Rattle.fol.specs.declared.symbols.Var.TheVariants.{Word, Num}
use Rattle.fol.specs.Syntax.{free}
use Rattle.substitution.specs.Image.{image_term}
use Rattle.substitution.proofs.ImageLaws.{same_var}
use Rattle.lk_rules.specs.declared.sequent.Sequent.{Sequent}
use Rattle.lk_rules.specs.Sequents.{is_free_in_sequent, image_sequent}
use Rattle.clause_laws.specs.Subsumption.{IsVariant, AreApart}
use Rattle.clause_laws.specs.Apart.{first_name, second_name, first_apart, second_apart, on_each}
use Rattle.clause_laws.proofs.Sets.{Replacing}
use Rattle.clause_laws.proofs.Sequents.{agree_sequent, from_free_image_sequent}
use Rattle.clause_laws.proofs.Subsuming.{variant_renamed}

-- whose variable it is, and which one it was

abbrev is_first : Var → Bool
is_first (Num n) = n % 2 == 0
is_first (Word []) = true
is_first (Word (b ∷ x)) = b == 65

abbrev old_name : Var → Var
old_name (Num n) = Num (n / 2)
old_name (Word []) = Word []
old_name (Word (b ∷ x)) = Word x

old-first_name : (v : Var) → old_name (first_name v) ≡ v
old-first_name (Num n) = let half : (2 * n) / 2 ≡ n = omega arith in ap Num half
old-first_name (Word x) = refl

old-second_name : (v : Var) → old_name (second_name v) ≡ v
old-second_name (Num n) = let half : (2 * n + 1) / 2 ≡ n = omega arith in ap Num half
old-second_name (Word x) = refl

first-first_name : (v : Var) → is_first (first_name v) ≡ true
first-first_name (Num n) = let even : (2 * n) % 2 ≡ 0 = omega arith in ap (λ k. k == 0) even
first-first_name (Word x) = refl

first-second_name : (v : Var) → is_first (second_name v) ≡ false
first-second_name (Num n) = let odd : (2 * n + 1) % 2 ≡ 1 = omega arith in ap (λ k. k == 0) odd
first-second_name (Word x) = refl

abbrev old : Replacing
old v = Some (free (old_name v))

pub first_variant : (c : Sequent) → IsVariant c (image_sequent first_apart c)
first_variant c = variant_renamed c (image_sequent first_apart c) (record { there = first_apart; back = old; is = refl; undone = λ v e. ap free (old-first_name v) })

pub second_variant : (c : Sequent) → IsVariant c (image_sequent second_apart c)
second_variant c = variant_renamed c (image_sequent second_apart c) (record { there = second_apart; back = old; is = refl; undone = λ v e. ap free (old-second_name v) })

pub apart : (c d : Sequent) → AreApart (image_sequent first_apart c) (image_sequent second_apart d)
apart c d w one two =
    both_ways (is_first w)
    (from_free_image_sequent second_apart w d (λ v own e. ap is_first (same_var w (second_name v) e) ∙ first-second_name v) two)
    (from_free_image_sequent first_apart w c (λ v own e. ap is_first (same_var w (first_name v) e) ∙ first-first_name v) one)

-- a map for both

module _ (c : Sequent) (g h : Replacing) where
  pub on_first : (v : Var) → is_free_in_sequent v c ≡ true → image_term (on_each c g h) (free v) ≡ image_term g (free v)
  on_first v own = ap (λ b. if b then image_term g (free v) else image_term h (free v)) own

  pub image_first : image_sequent (on_each c g h) c ≡ image_sequent g c
  image_first = agree_sequent (on_each c g h) g c on_first

  module _ (d : Sequent) (apart : AreApart c d) where
    pub on_second : (v : Var) → is_free_in_sequent v d ≡ true → image_term (on_each c g h) (free v) ≡ image_term h (free v)
    on_second v own = ap (λ b. if b then image_term g (free v) else image_term h (free v)) (false_from_ne_true (is_free_in_sequent v c) (λ e. apart v e own))

    pub image_second : image_sequent (on_each c g h) d ≡ image_sequent h d
    image_second = agree_sequent (on_each c g h) h d on_second
