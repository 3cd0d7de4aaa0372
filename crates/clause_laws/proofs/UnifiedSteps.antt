-- A most general unifier of some formulas and one more: one of the formulas, and then one of what they became and what the further one did.
use Rattle.std.proofs.Common.{◌≡◌, true, List, [], ◌∷◌, ◌++◌, refl, sym, ap, ◌∙◌}
use Rattle.std.specs.Ordering.{eq_by_cmp}
use Rattle.std.proofs.lemmas.Bool.{false≢true}
use Rattle.fol.specs.Syntax.{free, Formula}
use Rattle.fol.specs.Order.{formula_cmp}
use Rattle.substitution.specs.Image.{image_term, image, after}
use Rattle.substitution.proofs.ImageLaws.{agree, untouched, untouched_term, image-image, image-image_term}
use Rattle.proof_trees.proofs.Booleans.{or_first, or_second, either}
use Rattle.proof_trees.proofs.FormulaSets.{equal, tied}
use Rattle.finite.specs.Finite as set
use Rattle.clause_laws.specs.Unifiers.{set_of, MakesAll, GoesOn, IsMostGeneral}
use Rattle.clause_laws.proofs.Sets.{Replacing, nothing, is_in, has-each}
use Rattle.clause_laws.proofs.Resolving.{in_front, in_back, in_parts}

-- sets of one and of two formulas

only_member : (f q : Formula) → is_in (f ∷ []) q ≡ true → q ≡ f
only_member f q = either (eq_by_cmp formula_cmp q f) (is_in [] q) (equal q f) (λ e. absurd (false≢true e))

pub first_in : (f : Formula) (fs : List Formula) → is_in (f ∷ fs) f ≡ true
first_in f fs = or_first (eq_by_cmp formula_cmp f f) (is_in fs f) (tied f f refl)

pub makes_two : (h : Replacing) (f g b : Formula) → image h f ≡ b → image h g ≡ b → MakesAll h (set_of (f ∷ g ∷ [])) b
makes_two h f g b one two q e =
    either (eq_by_cmp formula_cmp q f) (is_in (g ∷ []) q)
    (λ d. ap (image h) (equal q f d) ∙ one)
    (λ d. ap (image h) (only_member g q d) ∙ two)
    (sym (has-each (f ∷ g ∷ []) q) ∙ e)

-- one formula is what it is
pub unified_alone : (f : Formula) → IsMostGeneral nothing (set_of (f ∷ [])) f
unified_alone f = record {
  makes = λ q e. untouched nothing q (λ v _. refl) ∙ only_member f q (sym (has-each (f ∷ []) q) ∙ e);
  general = λ h b each. record { rest = h; is = λ t. ap (image_term h) (untouched_term nothing t (λ v _. refl)) };
}

-- one more

module _ (f : Formula) (fs : List Formula) (g : Formula) (m : Replacing) (a : Formula) (one : IsMostGeneral m (set_of (f ∷ fs)) a) where
  abbrev all : List Formula
  all = (f ∷ fs) ++ g ∷ []

  old_in : (q : Formula) → is_in (f ∷ fs) q ≡ true → set.has (set_of all) q ≡ true
  old_in q e = has-each all q ∙ in_front (f ∷ fs) (g ∷ []) q e

  new_in : set.has (set_of all) g ≡ true
  new_in = has-each all g ∙ in_back (f ∷ fs) (g ∷ []) g (first_in g [])

  -- the map goes on after m, and makes what became of the formulas one
  pub with_more : (h : Replacing) (b : Formula) → MakesAll h (set_of all) b → (k : GoesOn m h) × MakesAll k.rest (set_of (a ∷ image m g ∷ [])) b
  with_more h b each =
      let k = one.general h b (λ q e. each q (old_in q (sym (has-each (f ∷ fs) q) ∙ e))) in
      let later = λ (q : Formula). image-image m k.rest q ∙ agree (after m k.rest) h q (λ v _. k.is (free v)) in (
        k,
        makes_two k.rest a (image m g) b
            (ap (image k.rest) (sym (one.makes f (has-each (f ∷ fs) f ∙ first_in f fs))) ∙ later f ∙ each f (old_in f (first_in f fs)))
            (later g ∙ each g new_in),
      )

  pub none_with_more : (h : Replacing) (b : Formula) → MakesAll h (set_of all) b → (k : Replacing) × MakesAll k (set_of (a ∷ image m g ∷ [])) b
  none_with_more h b each = let w = with_more h b each in (w.0.rest, w.1)

  pub unified_more : (n : Replacing) (b : Formula) → IsMostGeneral n (set_of (a ∷ image m g ∷ [])) b → IsMostGeneral (after m n) (set_of all) b
  unified_more n b two = record {
    makes = λ q e.
        sym (image-image m n q)
        ∙ in_parts (f ∷ fs) (g ∷ []) q
        (λ old. ap (image n) (one.makes q (has-each (f ∷ fs) q ∙ old)) ∙ two.makes a (has-each (a ∷ image m g ∷ []) a ∙ first_in a (image m g ∷ [])))
        (λ new. ap (λ k. image n (image m k)) (only_member g q new) ∙ two.makes (image m g) (has-each (a ∷ image m g ∷ []) (image m g) ∙ or_second (eq_by_cmp formula_cmp (image m g) a) _ (first_in (image m g) [])))
        (sym (has-each all q) ∙ e);
    general = λ h c each.
        let w = with_more h c each in
        let k = two.general w.0.rest c w.1 in
        record { rest = k.rest; is = λ t. ap (image_term k.rest) (sym (image-image_term m n t)) ∙ k.is (image_term m t) ∙ w.0.is t };
  }
