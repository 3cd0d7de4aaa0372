-- A resolvent of renamed clauses is a variant of any resolvent of the clauses themselves by the atoms that were renamed to the chosen ones.
use Rattle.std.proofs.Common.{◌≡◌, Bool, true, List, ◌++◌, filter, sym, ap, ◌∙◌}
use Rattle.fol.specs.declared.symbols.Var.{Var}
use Rattle.fol.specs.Syntax.{free, Formula}
use Rattle.finite.specs.Finite as set
use Rattle.finite.proofs.Finite.{has-listing}
use Rattle.free_variables.specs.Union.{union_of}
use Rattle.free_variables.specs.Occurrence.{is_free_in}
use Rattle.substitution.specs.Image.{image_term, image, after}
use Rattle.substitution.proofs.ImageLaws.{agree, image-image}
use Rattle.lk_rules.specs.declared.sequent.Sequent.{Sequent}
use Rattle.lk_rules.specs.Formulas.{FormulaSet, image_set}
use Rattle.lk_rules.specs.Sequents.{is_free_in_sequent, union_sequent, image_sequent}
use Rattle.proof_trees.specs.FormulaSets.{without}
use Rattle.proof_trees.proofs.FormulaSets.{in_first, in_second, in_either, image-union_sequent}
use Rattle.refutations.specs.Refutations.{resolvent}
use Rattle.substitution.proofs.Booleans.{and_both, and_left}
use Rattle.clause_laws.specs.Subsumption.{IsVariant}
use Rattle.clause_laws.specs.Unifiers.{set_of, GoesOn, IsMostGeneral}
use Rattle.clause_laws.specs.Resolvents.{IsResolvent}
use Rattle.clause_laws.specs.Choices.{ByChoice}
use Rattle.clause_laws.proofs.Sets.{Replacing, is_in, in_filter, has-each, from_image, same_images, image-image_set}
use Rattle.clause_laws.proofs.Sequents.{from_free, from_left, from_right}
use Rattle.clause_laws.proofs.Subsuming.{variant_renamed}
use Rattle.clause_laws.proofs.Resolving.{in_front, in_back, in_parts}
use Rattle.clause_laws.proofs.Fixed.{fixed_variable}
use Rattle.clause_laws.proofs.RenamedSets.{renamed_without}
use Rattle.clause_laws.proofs.Lists.{filter_choice}
use Rattle.clause_laws.proofs.Listed.{some_chosen}

-- The map `there` renames the clauses c and d, which `back` undoes.
pub record IsUndone (there back : Replacing) (c d : Sequent) : Type 0 where
  pub left : (f : Formula) → set.has c.left f ≡ true → image back (image there f) ≡ f
  pub right : (f : Formula) → set.has c.right f ≡ true → image back (image there f) ≡ f
  pub second_left : (f : Formula) → set.has d.left f ≡ true → image back (image there f) ≡ f
  pub second_right : (f : Formula) → set.has d.right f ≡ true → image back (image there f) ≡ f

module _ (c d : Sequent) (there back : Replacing) (undone : IsUndone there back c d) (r : Sequent) (h : IsResolvent (image_sequent there c) (image_sequent there d) r) where
  -- the atoms that were renamed to chosen ones

  abbrev becomes_positive : Formula → Bool
  becomes_positive f = set.has h.positive (image there f)

  abbrev becomes_negative : Formula → Bool
  becomes_negative f = set.has h.negative (image there f)

  abbrev fs : List Formula
  fs = filter becomes_positive (set.listing c.right)

  abbrev gs : List Formula
  gs = filter becomes_negative (set.listing d.left)

  in_fs : (f : Formula) → set.has c.right f ≡ true → set.has h.positive (image there f) ≡ true → is_in fs f ≡ true
  in_fs f member e = in_filter becomes_positive (set.listing c.right) f ∙ and_both (becomes_positive f) _ e (sym (has-listing c.right f) ∙ member)

  in_gs : (f : Formula) → set.has d.left f ≡ true → set.has h.negative (image there f) ≡ true → is_in gs f ≡ true
  in_gs f member e = in_filter becomes_negative (set.listing d.left) f ∙ and_both (becomes_negative f) _ e (sym (has-listing d.left f) ∙ member)

  -- the renaming and then the unifier
  abbrev whole : Replacing
  whole = after there h.unifier

  each_one : (f : Formula) → is_in (fs ++ gs) f ≡ true → image whole f ≡ h.atom
  each_one f =
      in_parts fs gs f
      (λ e. sym (image-image there h.unifier f) ∙ h.most_general.makes (image there f) (in_first h.positive h.negative (image there f) (and_left (becomes_positive f) _ (sym (in_filter becomes_positive (set.listing c.right) f) ∙ e))))
      (λ e. sym (image-image there h.unifier f) ∙ h.most_general.makes (image there f) (in_second h.positive h.negative (image there f) (and_left (becomes_negative f) _ (sym (in_filter becomes_negative (set.listing d.left) f) ∙ e))))

  -- any most general unifier of them
  module _ (m : Replacing) (b : Formula) (g : IsMostGeneral m (set_of (fs ++ gs)) b) where
    onto_rest : GoesOn m whole
    onto_rest = g.general whole h.atom (λ q e. each_one q (sym (has-each (fs ++ gs) q) ∙ e))

    abbrev onto : Replacing
    onto = onto_rest.rest

    all_as_one : (q : Formula) → set.has (union_of h.positive h.negative) q ≡ true → image (after back m) q ≡ b
    all_as_one q =
        in_either h.positive h.negative q
        (λ e. from_image there c.right q
        (λ f member made.
        ap (image (after back m)) made ∙ sym (image-image back m (image there f)) ∙ ap (image m) (undone.right f member)
        ∙ g.makes f (has-each (fs ++ gs) f ∙ (in_front fs gs f (in_fs f member (sym (ap (set.has h.positive) made) ∙ e)))))
        (h.some_positive.within q e))
        (λ e. from_image there d.left q
        (λ f member made.
        ap (image (after back m)) made ∙ sym (image-image back m (image there f)) ∙ ap (image m) (undone.second_left f member)
        ∙ g.makes f (has-each (fs ++ gs) f ∙ (in_back fs gs f (in_gs f member (sym (ap (set.has h.negative) made) ∙ e)))))
        (h.some_negative.within q e))

    further : GoesOn h.unifier (after back m)
    further = h.most_general.general (after back m) b all_as_one

    -- from m's images to those of the renamed formulas, and back

    forth : (f : Formula) → image onto (image m f) ≡ image h.unifier (image there f)
    forth f = image-image m onto f ∙ agree (after m onto) whole f (λ v e. onto_rest.is (free v)) ∙ sym (image-image there h.unifier f)

    home : (f : Formula) → image back (image there f) ≡ f → image further.rest (image h.unifier (image there f)) ≡ image m f
    home f same =
        image-image h.unifier further.rest (image there f)
        ∙ agree (after h.unifier further.rest) (after back m) (image there f) (λ v e. further.is (free v))
        ∙ sym (image-image back m (image there f)) ∙ ap (image m) same

    there_and_back : (f : Formula) → image back (image there f) ≡ f → image further.rest (image onto (image m f)) ≡ image m f
    there_and_back f same = ap (image further.rest) (forth f) ∙ home f same

    to_atom : image onto b ≡ h.atom
    to_atom =
        from_image there c.right h.some_positive.one
        (λ f member made.
        let at = in_fs f member (ap (set.has h.positive) (sym made) ∙ h.some_positive.is_one) in
        ap (image onto) (sym (g.makes f (has-each (fs ++ gs) f ∙ (in_front fs gs f at)))) ∙ forth f ∙ image-image there h.unifier f ∙ each_one f (in_front fs gs f at))
        (h.some_positive.within h.some_positive.one h.some_positive.is_one)

    from_atom : image further.rest h.atom ≡ b
    from_atom =
        from_image there c.right h.some_positive.one
        (λ f member made.
        let at = in_fs f member (ap (set.has h.positive) (sym made) ∙ h.some_positive.is_one) in
        let same = g.makes f (has-each (fs ++ gs) f ∙ (in_front fs gs f at)) in
        ap (image further.rest) (sym to_atom ∙ ap (image onto) (sym same)) ∙ there_and_back f (undone.right f member) ∙ same)
        (h.some_positive.within h.some_positive.one h.some_positive.is_one)

    -- sets

    kept_set : (s : FormulaSet) → image_set onto (image_set m s) ≡ image_set h.unifier (image_set there s)
    kept_set s =
        image-image_set m onto s
        ∙ same_images (after m onto) (after there h.unifier) s (λ f e. sym (image-image m onto f) ∙ forth f ∙ image-image there h.unifier f)
        ∙ sym (image-image_set there h.unifier s)

    without_set : (s : FormulaSet) → ((f : Formula) → set.has s f ≡ true → image back (image there f) ≡ f) → image_set onto (without (image_set m s) b) ≡ without (image_set h.unifier (image_set there s)) h.atom
    without_set s same =
        renamed_without onto further.rest (image_set m s) (image_set h.unifier (image_set there s))
        (λ q. from_image m s q (λ f member made. ap (λ k. image further.rest (image onto k)) made ∙ there_and_back f (same f member) ∙ sym made))
        (kept_set s) b h.atom to_atom from_atom

    abbrev remade : Sequent
    remade = resolvent (image_sequent m c) (image_sequent m d) b

    renamed_is : image_sequent onto remade ≡ r
    renamed_is =
        image-union_sequent onto (record { left = image_set m c.left; right = without (image_set m c.right) b }) (record { left = without (image_set m d.left) b; right = image_set m d.right })
        ∙ (λ i. union_sequent (record { left = kept_set c.left i; right = without_set c.right undone.right i }) (record { left = without_set d.left undone.second_left i; right = kept_set d.right i }))
        ∙ sym h.is

    from_member : (s : FormulaSet) → ((f : Formula) → set.has s f ≡ true → image back (image there f) ≡ f) → (q : Formula) (v : Var) → is_free_in v q ≡ true → set.has (image_set m s) q ≡ true
        → image_term further.rest (image_term onto (free v)) ≡ free v
    from_member s same q v e =
        from_image m s q (λ f member made.
        let kept : image (after onto further.rest) q ≡ q = sym (image-image onto further.rest q) ∙ ap (λ k. image further.rest (image onto k)) made ∙ there_and_back f (same f member) ∙ sym made in
        fixed_variable (after onto further.rest) v q kept e)

    renaming_undone : (v : Var) → is_free_in_sequent v remade ≡ true → image_term further.rest (image_term onto (free v)) ≡ free v
    renaming_undone v =
        from_free remade v
        (λ q member e. from_left (image_sequent m c) (image_sequent m d) b q (from_member c.left undone.left q v e) (λ at_left _. from_member d.left undone.second_left q v e at_left) member)
        (λ q member e. from_right (image_sequent m c) (image_sequent m d) b q (λ at_right _. from_member c.right undone.right q v e at_right) (from_member d.right undone.second_right q v e) member)

    -- what it gives is a variant of r
    pub remade_variant : IsVariant remade r
    remade_variant = variant_renamed remade r (record { there = onto; back = further.rest; is = renamed_is; undone = renaming_undone })

  -- the choices that were renamed
  pub by_choice : ByChoice c d r
  by_choice =
      from_image there c.right h.some_positive.one
      (λ f member made. from_image there d.left h.some_negative.one
      (λ k on is.
      record {
        positive = fs;
        negative = gs;
        is_positive = filter_choice becomes_positive (set.listing c.right) (some_chosen becomes_positive (set.listing c.right) f (in_fs f member (ap (set.has h.positive) (sym made) ∙ h.some_positive.is_one)));
        is_negative = filter_choice becomes_negative (set.listing d.left) (some_chosen becomes_negative (set.listing d.left) k (in_gs k on (ap (set.has h.negative) (sym is) ∙ h.some_negative.is_one)));
        map = whole;
        atom = h.atom;
        of_atoms = h.of_atoms;
        unifies = λ q e. each_one q (sym (has-each (fs ++ gs) q) ∙ e);
        any = λ m b g. remade_variant m b g;
      })
      (h.some_negative.within h.some_negative.one h.some_negative.is_one))
      (h.some_positive.within h.some_positive.one h.some_positive.is_one)
