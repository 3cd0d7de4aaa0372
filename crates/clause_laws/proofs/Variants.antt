-- Each full resolvent of two clauses is a variant of one by some choice of atoms, and so of one of the list.
use Rattle.std.proofs.Common.{◌≡◌, true, ◌++◌, sym, ap, subst, ◌∙◌}
use Rattle.std.specs.Prelude.{Contains}
use Rattle.std.specs.FinMap as fin
use Rattle.fol.specs.declared.symbols.Var.{Var}
use Rattle.fol.specs.Syntax.{free, Formula}
use Rattle.finite.specs.Finite as set
use Rattle.free_variables.specs.Occurrence.{is_free_in}
use Rattle.substitution.specs.Image.{image_term, image, after}
use Rattle.substitution.proofs.ImageLaws.{agree_term, image-image}
use Rattle.lk_rules.specs.declared.sequent.Sequent.{Sequent}
use Rattle.lk_rules.specs.Sequents.{is_free_in_sequent, image_sequent}
use Rattle.proof_trees.specs.FormulaSets.{is_atom}
use Rattle.clause_laws.specs.Subsumption.{IsVariant, IsRenamed, AreApart}
use Rattle.clause_laws.specs.Apart.{first_apart, second_apart, on_each}
use Rattle.clause_laws.specs.Resolvents.{IsResolvent, IsFullResolvent, resolved_by}
use Rattle.clause_laws.specs.Choices.{resolvents_apart, full_resolvents, ByChoice}
use Rattle.clause_laws.specs.Rounds.{VariantOf}
use Rattle.clause_laws.proofs.Sets.{Replacing, is_in, has-each}
use Rattle.clause_laws.proofs.Unified.{unified}
use Rattle.clause_laws.proofs.Resolving.{atom-image, in_front, listed_unifier}
use Rattle.clause_laws.proofs.Lists.{choice_has_one}
use Rattle.clause_laws.proofs.Listed.{in_resolvents_by, in_resolvents_apart}
use Rattle.clause_laws.proofs.Sequents.{free_on_left, free_on_right}
use Rattle.clause_laws.proofs.Subsuming.{free_in_image, variant_back, variant_both}
use Rattle.clause_laws.proofs.RenamedApart.{first_variant, second_variant, apart, on_first, on_second, image_first, image_second}
use Rattle.clause_laws.proofs.Fixed.{kept_formula}
use Rattle.clause_laws.proofs.MutualImages.{renamed_variant}
use Rattle.clause_laws.proofs.Renaming.{IsUndone, by_choice}

-- Clauses p and n that are apart, and variants of them that are apart too and have the resolvent r.
module _ (p n first second r : Sequent) (apart : AreApart p n) (also : AreApart first second) (one : IsRenamed p first) (two : IsRenamed n second) (h : IsResolvent first second r) where
  abbrev there : Replacing
  there = on_each p one.there two.there

  abbrev back : Replacing
  back = on_each first one.back two.back

  first_kept : (v : Var) → is_free_in_sequent v p ≡ true → image_term (after there back) (free v) ≡ free v
  first_kept v own =
      ap (image_term back) (on_first p one.there two.there v own)
      ∙ agree_term back one.back (image_term one.there (free v))
      (λ w inside. on_first first one.back two.back w (ap (is_free_in_sequent w) (sym one.is) ∙ free_in_image one.there v w inside p own))
      ∙ one.undone v own

  second_kept : (v : Var) → is_free_in_sequent v n ≡ true → image_term (after there back) (free v) ≡ free v
  second_kept v own =
      ap (image_term back) (on_second p one.there two.there n apart v own)
      ∙ agree_term back two.back (image_term two.there (free v))
      (λ w inside. on_second first one.back two.back second also w (ap (is_free_in_sequent w) (sym two.is) ∙ free_in_image two.there v w inside n own))
      ∙ two.undone v own

  restored : (f : Formula) → ((w : Var) → is_free_in w f ≡ true → image_term (after there back) (free w) ≡ free w) → image back (image there f) ≡ f
  restored f kept = image-image there back f ∙ kept_formula (after there back) f kept

  undone : IsUndone there back p n
  undone = record {
    left = λ f at. restored f (λ w e. first_kept w (free_on_left p f w at e));
    right = λ f at. restored f (λ w e. first_kept w (free_on_right p f w at e));
    second_left = λ f at. restored f (λ w e. second_kept w (free_on_left n f w at e));
    second_right = λ f at. restored f (λ w e. second_kept w (free_on_right n f w at e));
  }

  choice_of_variants : ByChoice p n r
  choice_of_variants =
      let first_is : first ≡ image_sequent there p = sym one.is ∙ sym (image_first p one.there two.there) in
      let second_is : second ≡ image_sequent there n = sym two.is ∙ sym (image_second p one.there two.there n apart) in
      by_choice p n there back undone r
      (subst (λ (s : Sequent). IsResolvent s (image_sequent there n) r) first_is (subst (λ (s : Sequent). IsResolvent first s r) second_is h))

-- however the clauses are renamed apart, and whatever unifier is taken
pub choice_apart : (c d p n r : Sequent) → IsVariant c p → IsVariant d n → AreApart p n → IsFullResolvent c d r → ByChoice p n r
choice_apart c d p n r of_c of_d apart h =
    choice_of_variants p n h.first h.second r apart h.apart
    (renamed_variant p h.first (variant_both p c h.first (variant_back c p of_c) h.first_variant))
    (renamed_variant n h.second (variant_both n d h.second (variant_back d n of_d) h.second_variant))
    h.resolves

-- the unifier of the list is one
listed_choice : (p n r : Sequent) → ByChoice p n r → VariantOf (Contains (resolvents_apart p n)) r
listed_choice p n r h =
    let both = h.positive ++ h.negative in
    let each = λ (q : Formula) (e : is_in both q ≡ true). h.unifies q (has-each both q ∙ e) in
    let found = unified both (λ q e. sym (atom-image h.map q) ∙ ap is_atom (each q e) ∙ h.of_atoms) h.map h.atom each in
    choice_has_one (set.listing p.right) h.positive (λ f at. record {
      member = resolved_by p n f found.map;
      is_member = in_resolvents_apart p n h.positive h.negative h.is_positive h.is_negative (resolved_by p n f found.map) (in_resolvents_by p n h.positive h.negative f at found.map found.is found.right);
      variant = h.any (fin.get found.map) (image (fin.get found.map) f) (listed_unifier both f (in_front h.positive h.negative f at) found.map found.right);
    })
    h.is_positive

pub variant_apart : (c d p n r : Sequent) → IsVariant c p → IsVariant d n → AreApart p n → IsFullResolvent c d r → VariantOf (Contains (resolvents_apart p n)) r
variant_apart c d p n r of_c of_d apart h = listed_choice p n r (choice_apart c d p n r of_c of_d apart h)

pub variant_listed : (c d r : Sequent) → IsFullResolvent c d r → VariantOf (Contains (full_resolvents c d)) r
unfolding full_resolvents
variant_listed c d r = variant_apart c d (image_sequent first_apart c) (image_sequent second_apart d) r (first_variant c) (second_variant d) (apart c d)
