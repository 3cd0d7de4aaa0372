-- Sets of formulas that are renamed, without a formula that is renamed too.
use Rattle.std.proofs.Common.{◌≡◌, true, false, sym, ap, ◌∙◌}
use Rattle.std.specs.Ordering.{eq_by_cmp}
use Rattle.fol.specs.Syntax.{Formula}
use Rattle.fol.specs.Order.{formula_cmp}
use Rattle.finite.specs.Finite as set
use Rattle.substitution.specs.Image.{image}
use Rattle.lk_rules.specs.Formulas.{FormulaSet, image_set}
use Rattle.proof_trees.specs.FormulaSets.{without}
use Rattle.proof_trees.proofs.Members.{image_member}
use Rattle.proof_trees.proofs.FormulaSets.{equal, tied, same_sets, without_member}
use Rattle.unify_laws.proofs.Images.{split, clash_of}
use Rattle.clause_laws.proofs.Sets.{Replacing, from_image, images_within}
use Rattle.clause_laws.proofs.Sequents.{from_without}

module _ (onto home : Replacing) (s t : FormulaSet) (back : (q : Formula) → set.has s q ≡ true → image home (image onto q) ≡ q) (is : image_set onto s ≡ t) (b a : Formula) (there : image onto b ≡ a) (again : image home a ≡ b) where
  still_other : (q : Formula) → set.has s q ≡ true → eq_by_cmp formula_cmp b q ≡ false → eq_by_cmp formula_cmp a (image onto q) ≡ false
  still_other q member other =
      split (eq_by_cmp formula_cmp a (image onto q))
      (λ e. clash_of (eq_by_cmp formula_cmp b q) (tied b q (sym again ∙ ap (image home) (equal a (image onto q) e) ∙ back q member)) other)
      (λ e. e)

  other_before : (q : Formula) → eq_by_cmp formula_cmp a (image onto q) ≡ false → eq_by_cmp formula_cmp b q ≡ false
  other_before q other =
      split (eq_by_cmp formula_cmp b q)
      (λ e. clash_of (eq_by_cmp formula_cmp a (image onto q)) (tied a (image onto q) (sym there ∙ ap (image onto) (equal b q e))) other)
      (λ e. e)

  pub renamed_without : image_set onto (without s b) ≡ without t a
  renamed_without =
      same_sets (image_set onto (without s b)) (without t a)
      (images_within onto (without s b) (without t a)
      (λ q. from_without s b q (λ member other. without_member t a (image onto q) (ap (λ k. set.has k (image onto q)) (sym is) ∙ image_member onto s q member) (still_other q member other))))
      (λ p. from_without t a p (λ member other.
      from_image onto s p
      (λ q at made.
      ap (set.has (image_set onto (without s b))) made
      ∙ image_member onto (without s b) q (without_member s b q at (other_before q (ap (eq_by_cmp formula_cmp a) (sym made) ∙ other))))
      (ap (λ k. set.has k p) is ∙ member)))
