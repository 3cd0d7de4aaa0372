-- Clauses that are images of each other differ in the names of variables alone.
use Rattle.std.proofs.Common.{◌≡◌, ℕ, zero, suc, true, List, ◌++◌, refl, sym, ap, ◌∙◌}
use Rattle.fol.specs.Syntax.{free, Formula}
use Rattle.finite.specs.Finite as set
use Rattle.finite.proofs.Finite.{has-listing}
use Rattle.substitution.specs.Image.{image_term, image, after}
use Rattle.substitution.proofs.ImageLaws.{untouched, image-image, image-image_term}
use Rattle.lk_rules.specs.declared.sequent.Sequent.{Sequent}
use Rattle.lk_rules.specs.Formulas.{FormulaSet, image_set}
use Rattle.lk_rules.specs.Sequents.{image_sequent}
use Rattle.proof_trees.proofs.Members.{image_member}
use Rattle.clause_laws.specs.Subsumption.{IsVariant, IsRenamed}
use Rattle.clause_laws.proofs.Sets.{Replacing, nothing, is_in, from_image}
use Rattle.clause_laws.proofs.Sequents.{image-image_sequent, from_free}
use Rattle.clause_laws.proofs.Fixed.{fixed_variable}
use Rattle.clause_laws.proofs.Resolving.{in_front, in_back, in_parts}
use Rattle.clause_laws.proofs.Periods.{iterate, period, common_period}

-- a map several times
abbrev power : Replacing → ℕ → Replacing
power m zero = nothing
power m (suc n) = after m (power m n)

image-power : (m : Replacing) (n : ℕ) (f : Formula) → image (power m n) f ≡ iterate (image m) n f
image-power m zero f = untouched nothing f (λ v e. refl)
image-power m (suc n) f = sym (image-image m (power m n) f) ∙ image-power m n (image m f)

-- in a set that is its own image each formula comes back
set_period : (m : Replacing) (s : FormulaSet) → image_set m s ≡ s → (f : Formula) → is_in (set.listing s) f ≡ true → (k : ℕ) × (iterate (image m) (suc k) f ≡ f)
set_period m s own =
    period (image m) (set.listing s)
    (λ f e. sym (has-listing s (image m f)) ∙ ap (λ t. set.has t (image m f)) (sym own) ∙ image_member m s f (has-listing s f ∙ e))
    (λ f e. from_image m s f (λ g member made. (g, sym (has-listing s g) ∙ member, sym made)) (ap (λ t. set.has t f) own ∙ has-listing s f ∙ e))

module _ (c d : Sequent) (h : IsVariant c d) where
  abbrev round : Replacing
  round = after h.there h.back

  own : image_sequent round c ≡ c
  own = sym (image-image_sequent h.there h.back c) ∙ ap (image_sequent h.back) h.is ∙ h.was

  abbrev lefts : List Formula
  lefts = set.listing c.left

  abbrev rights : List Formula
  rights = set.listing c.right

  both_period : (n : ℕ) × ((f : Formula) → is_in (lefts ++ rights) f ≡ true → iterate (image round) (suc n) f ≡ f)
  both_period =
      common_period (image round) (lefts ++ rights) (λ f.
      in_parts lefts rights f (set_period round c.left (ap (λ s. s.left) own) f) (set_period round c.right (ap (λ s. s.right) own) f))

  kept : (f : Formula) → is_in (lefts ++ rights) f ≡ true → image (power round (suc both_period.0)) f ≡ f
  kept f e = image-power round (suc both_period.0) f ∙ both_period.1 f e

  pub renamed_variant : IsRenamed c d
  renamed_variant = record {
    there = h.there;
    back = after h.back (power round both_period.0);
    is = h.is;
    undone = λ v free_in_c.
        sym (image-image_term h.back (power round both_period.0) (image_term h.there (free v)))
        ∙ from_free c v
        (λ f at e. fixed_variable (power round (suc both_period.0)) v f (kept f (in_front lefts rights f (sym (has-listing c.left f) ∙ at))) e)
        (λ f at e. fixed_variable (power round (suc both_period.0)) v f (kept f (in_back lefts rights f (sym (has-listing c.right f) ∙ at))) e)
        free_in_c;
  }
