-- A full resolvent is one of images under finite maps, so what rounds reach is derived by steps.
use Rattle.std.proofs.Common.{◌≡◌, ℕ, zero, suc, true, inl, inr, List, [], ◌∷◌, unwrap_or, sym, ap, subst, ◌∙◌}
use Rattle.std.specs.FinMap as fin
use Rattle.std.specs.Ordering.{eq_by_cmp}
use Rattle.fol.specs.declared.symbols.Var.{Var}
use Rattle.fol.specs.Syntax.{free}
use Rattle.fol.specs.Order.{var_cmp}
use Rattle.finite.specs.Finite as set
use Rattle.free_variables.specs.Fresh.{is_among}
use Rattle.substitution.specs.Image.{image_term, after}
use Rattle.substitution.proofs.ImageLaws.{same_var, own_binding, other_binding}
use Rattle.lk_rules.specs.declared.sequent.Sequent.{Sequent}
use Rattle.lk_rules.specs.Sequents.{image_sequent}
use Rattle.proof_trees.proofs.Booleans.{either}
use Rattle.proof_trees.proofs.Members.{image_member}
use Rattle.proof_trees.proofs.FormulaSets.{in_first, in_second}
use Rattle.refutations.specs.Refutations.{resolvent}
use Rattle.unify_laws.proofs.Images.{split, clash_of}
use Rattle.clause_laws.specs.Subsumption.{IsVariant}
use Rattle.clause_laws.specs.Normal.{variables}
use Rattle.clause_laws.specs.Resolvents.{IsFullResolvent}
use Rattle.clause_laws.specs.Rounds.{WithResolvents, Level}
use Rattle.clause_laws.specs.Steps.{taken, BySteps, IsDerived, by_input, by_image, by_resolution}
use Rattle.clause_laws.proofs.Sets.{Replacing}
use Rattle.clause_laws.proofs.Sequents.{agree_sequent, image-image_sequent}
use Rattle.clause_laws.proofs.Normalised.{variables-free}

-- a finite map does the same to the variables of its list
pub taken_alike : (h : Replacing) (vs : List Var) (v : Var) → is_among v vs ≡ true → image_term (fin.get (taken h vs)) (free v) ≡ image_term h (free v)
taken_alike h [] v e = cc
taken_alike h (w ∷ vs) v e =
    split (eq_by_cmp var_cmp v w)
    (λ here. subst (λ (u : Var). image_term (fin.get (taken h (w ∷ vs))) (free u) ≡ image_term h (free u)) (sym (same_var v w here)) (ap (λ o. unwrap_or o (free w)) (own_binding (taken h vs) w (image_term h (free w)))))
    (λ other.
    ap (λ o. unwrap_or o (free v)) (other_binding (taken h vs) w v (image_term h (free w)) other)
    ∙ taken_alike h vs v (either (eq_by_cmp var_cmp v w) (is_among v vs) (λ here. clash_of (eq_by_cmp var_cmp v w) here other) (λ d. d) e))

-- each image is one under a finite map
pub image_taken : (h : Replacing) (c : Sequent) → image_sequent (fin.get (taken h (variables c))) c ≡ image_sequent h c
image_taken h c = agree_sequent (fin.get (taken h (variables c))) h c (λ v own. taken_alike h (variables c) v (variables-free c v ∙ own))

pub full_by_steps : (c d r : Sequent) → IsFullResolvent c d r → BySteps c d r
full_by_steps c d r h =
    let m = h.resolves.unifier in
    let g = after h.first_variant.there m in
    let k = after h.second_variant.there m in
    let first : image_sequent (fin.get (taken g (variables c))) c ≡ image_sequent m h.first = image_taken g c ∙ sym (image-image_sequent h.first_variant.there m c) ∙ ap (image_sequent m) h.first_variant.is in
    let second : image_sequent (fin.get (taken k (variables d))) d ≡ image_sequent m h.second = image_taken k d ∙ sym (image-image_sequent h.second_variant.there m d) ∙ ap (image_sequent m) h.second_variant.is in
    let positive = h.resolves.some_positive in
    let negative = h.resolves.some_negative in
    let right_is = h.resolves.most_general.makes positive.one (in_first h.resolves.positive h.resolves.negative positive.one positive.is_one) in
    let left_is = h.resolves.most_general.makes negative.one (in_second h.resolves.positive h.resolves.negative negative.one negative.is_one) in
    record {
      first = taken g (variables c);
      second = taken k (variables d);
      atom = h.resolves.atom;
      on_right = ap (λ s. set.has s.right h.resolves.atom) first ∙ ap (set.has (image_sequent m h.first).right) (sym right_is) ∙ image_member m h.first.right positive.one (positive.within positive.one positive.is_one);
      on_left = ap (λ s. set.has s.left h.resolves.atom) second ∙ ap (set.has (image_sequent m h.second).left) (sym left_is) ∙ image_member m h.second.left negative.one (negative.within negative.one negative.is_one);
      is = h.resolves.is ∙ λ i. resolvent (sym first i) (sym second i) h.resolves.atom;
    }

-- what rounds reach

module _ (cs : List Sequent) where
  derived_variant : (c d : Sequent) → IsVariant c d → IsDerived cs c → IsDerived cs d
  derived_variant c d v h = subst (IsDerived cs) (image_taken v.there c ∙ v.is) (by_image (taken v.there (variables c)) c h)

  derived_by_steps : (c d r : Sequent) → IsDerived cs c → IsDerived cs d → BySteps c d r → IsDerived cs r
  derived_by_steps c d r one two s =
      subst (IsDerived cs) (sym s.is)
      (by_resolution (image_sequent (fin.get s.first) c) (image_sequent (fin.get s.second) d) s.atom (by_image s.first c one) (by_image s.second d two) s.on_right s.on_left)

  derived_in_round : (k : Sequent → Type 0) → ((c : Sequent) → k c → IsDerived cs c) → (c : Sequent) → WithResolvents k c → IsDerived cs c
  derived_in_round k each c (inl m) = each c m
  derived_in_round k each c (inr h) = derived_by_steps h.first h.second c (each h.first h.is_first) (each h.second h.is_second) (full_by_steps h.first h.second c h.full)

  pub level_derived : (n : ℕ) (c : Sequent) → Level cs n c → IsDerived cs c
  level_derived zero c v = derived_variant v.member c v.variant (by_input v.member v.is_member)
  level_derived (suc n) c v = derived_variant v.member c v.variant (derived_in_round (Level cs n) (level_derived n) v.member v.is_member)
