-- Subsumption is reflexive and transitive, and variants subsume each other.
use Rattle.std.proofs.Common.{◌≡◌, true, refl, sym, ap, subst, ◌∙◌}
use Rattle.fol.specs.declared.symbols.Var.{Var}
use Rattle.fol.specs.Syntax.{Term, free, bound, app, Terms, nil, cons, Formula, atom, top, bot, not, and, or, imp, all, ex}
use Rattle.free_variables.specs.Occurrence.{is_free_in, is_free_in_term, is_free_in_terms}
use Rattle.substitution.specs.Image.{image_term, image_terms, image, after}
use Rattle.substitution.proofs.ImageLaws.{same_var}
use Rattle.lk_rules.specs.declared.sequent.Sequent.{Sequent}
use Rattle.lk_rules.specs.Sequents.{IsSubsequent, is_free_in_sequent, image_sequent}
use Rattle.proof_trees.proofs.Agreeing.{kept_sequent}
use Rattle.proof_trees.proofs.Booleans.{or_more}
use Rattle.proof_trees.proofs.Members.{image_member}
use Rattle.clause_laws.specs.Subsumption.{Subsumes, IsVariant, IsRenamed, IsTautology}
use Rattle.clause_laws.proofs.Sets.{Replacing, nothing}
use Rattle.clause_laws.proofs.Sequents.{within_itself, within_both, image_within, image-image_sequent, free_on_left, free_on_right, from_free}

-- subsumption

pub subsumes_image : (m : Replacing) (c : Sequent) → Subsumes c (image_sequent m c)
subsumes_image m c = record { map = m; within = within_itself (image_sequent m c) }

pub subsumes_more : (c d e : Sequent) → Subsumes c d → IsSubsequent d e → Subsumes c e
subsumes_more c d e h within = record { map = h.map; within = within_both (image_sequent h.map c) d e h.within within }

pub subsumes_itself : (c : Sequent) → Subsumes c c
subsumes_itself c =
    subst (Subsumes c) (kept_sequent nothing c (λ v e. refl)) (subsumes_image nothing c)

pub subsumes_larger : (c d : Sequent) → IsSubsequent c d → Subsumes c d
subsumes_larger c d within = subsumes_more c c d (subsumes_itself c) within

pub subsumes_both : (c d e : Sequent) → Subsumes c d → Subsumes d e → Subsumes c e
subsumes_both c d e h g = record {
  map = after h.map g.map;
  within =
      subst (λ (s : Sequent). IsSubsequent s e) (image-image_sequent h.map g.map c)
      (within_both (image_sequent g.map (image_sequent h.map c)) (image_sequent g.map d) e (image_within g.map (image_sequent h.map c) d h.within) g.within);
}

-- what a tautology subsumes is a tautology
pub tautology_subsumed : (c d : Sequent) → Subsumes c d → IsTautology c → IsTautology d
tautology_subsumed c d h t = record {
  atom = image h.map t.atom;
  on_left = h.within.left (image h.map t.atom) (image_member h.map c.left t.atom t.on_left);
  on_right = h.within.right (image h.map t.atom) (image_member h.map c.right t.atom t.on_right);
}

-- variants

pub variant_subsumed : (c d : Sequent) → IsVariant c d → Subsumes c d
variant_subsumed c d h = subst (Subsumes c) h.is (subsumes_image h.there c)

pub variant_subsumes : (c d : Sequent) → IsVariant c d → Subsumes d c
variant_subsumes c d h = subst (Subsumes d) h.was (subsumes_image h.back d)

pub variant_itself : (c : Sequent) → IsVariant c c
variant_itself c = record { there = nothing; back = nothing; is = kept_sequent nothing c (λ v e. refl); was = kept_sequent nothing c (λ v e. refl) }

pub variant_back : (c d : Sequent) → IsVariant c d → IsVariant d c
variant_back c d h = record { there = h.back; back = h.there; is = h.was; was = h.is }

pub variant_both : (c d e : Sequent) → IsVariant c d → IsVariant d e → IsVariant c e
variant_both c d e h g = record {
  there = after h.there g.there;
  back = after g.back h.back;
  is = sym (image-image_sequent h.there g.there c) ∙ ap (image_sequent g.there) h.is ∙ g.is;
  was = sym (image-image_sequent g.back h.back e) ∙ ap (image_sequent h.back) g.was ∙ h.was;
}

-- what is renamed, and what undoes it gives back
pub variant_renamed : (c d : Sequent) → IsRenamed c d → IsVariant c d
variant_renamed c d h = record {
  there = h.there;
  back = h.back;
  is = h.is;
  was = ap (image_sequent h.back) (sym h.is) ∙ image-image_sequent h.there h.back c ∙ kept_sequent (after h.there h.back) c h.undone;
}

-- a variable of the term for a variable is one of the image

module _ (m : Replacing) (v w : Var) (inside : is_free_in_term w (image_term m (free v)) ≡ true) where
  mutual
    free_in_term : (t : Term) → is_free_in_term v t ≡ true → is_free_in_term w (image_term m t) ≡ true
    free_in_term (free u) e = ap (λ x. is_free_in_term w (image_term m (free x))) (sym (same_var v u e)) ∙ inside
    free_in_term (bound i) e = cc
    free_in_term (app f ts) e = free_in_terms ts e

    free_in_terms : (ts : Terms) → is_free_in_terms v ts ≡ true → is_free_in_terms w (image_terms m ts) ≡ true
    free_in_terms nil e = cc
    free_in_terms (cons t ts) e = or_more (is_free_in_term v t) (is_free_in_terms v ts) _ _ (free_in_term t) (free_in_terms ts) e

  free_in_formula : (f : Formula) → is_free_in v f ≡ true → is_free_in w (image m f) ≡ true
  free_in_formula (atom s ts) e = free_in_terms ts e
  free_in_formula top e = cc
  free_in_formula bot e = cc
  free_in_formula (not f) e = free_in_formula f e
  free_in_formula (and f g) e = or_more (is_free_in v f) (is_free_in v g) _ _ (free_in_formula f) (free_in_formula g) e
  free_in_formula (or f g) e = or_more (is_free_in v f) (is_free_in v g) _ _ (free_in_formula f) (free_in_formula g) e
  free_in_formula (imp f g) e = or_more (is_free_in v f) (is_free_in v g) _ _ (free_in_formula f) (free_in_formula g) e
  free_in_formula (all f) e = free_in_formula f e
  free_in_formula (ex f) e = free_in_formula f e

  pub free_in_image : (c : Sequent) → is_free_in_sequent v c ≡ true → is_free_in_sequent w (image_sequent m c) ≡ true
  free_in_image c =
      from_free c v
      (λ f at e. free_on_left (image_sequent m c) (image m f) w (image_member m c.left f at) (free_in_formula f e))
      (λ f at e. free_on_right (image_sequent m c) (image m f) w (image_member m c.right f at) (free_in_formula f e))
