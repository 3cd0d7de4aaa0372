-- What an index over clauses may pass over: a clause without some predicate of another one isn't subsumed by that, and clauses without a common
-- predicate have no full resolvent.
use Rattle.std.proofs.Common.{◌≡◌, true, ◌||◌, refl, sym, ap, ◌∙◌}
use Rattle.fol.specs.Syntax.{Pred, Formula, atom, top, bot, not, and, or, imp, all, ex}
use Rattle.fol.specs.Order.{pred_cmp}
use Rattle.fol.proofs.OrderTies.{pred_equality_same}
use Rattle.std.specs.Ordering.{eq_by_cmp}
use Rattle.finite.specs.Finite as set
use Rattle.finite.proofs.Finite.{has-listing}
use Rattle.free_variables.specs.Occurrence.{is_pred_in}
use Rattle.substitution.specs.Image.{image}
use Rattle.lk_rules.specs.declared.sequent.Sequent.{Sequent}
use Rattle.lk_rules.specs.declared.sequent.Side.{Side}
use Rattle.lk_rules.specs.declared.sequent.Side.TheVariants.{Left, Right}
use Rattle.lk_rules.specs.Formulas.{FormulaSet, image_set}
use Rattle.lk_rules.specs.Sequents.{side_of}
use Rattle.proof_trees.specs.FormulaSets.{is_atom}
use Rattle.proof_trees.proofs.Members.{from_some, some_passes, image_member}
use Rattle.proof_trees.proofs.FormulaSets.{in_first, in_second}
use Rattle.clause_laws.specs.Subsumption.{Subsumes}
use Rattle.clause_laws.specs.Resolvents.{IsFullResolvent}
use Rattle.clause_laws.specs.Features.{HasPredicate, ArePartners}
use Rattle.clause_laws.proofs.Sets.{Replacing, from_image}

pred-image : (p : Pred) (m : Replacing) (f : Formula) → is_pred_in p (image m f) ≡ is_pred_in p f
pred-image p m (atom q ts) = refl
pred-image p m top = refl
pred-image p m bot = refl
pred-image p m (not f) = pred-image p m f
pred-image p m (and f g) = λ i. pred-image p m f i || pred-image p m g i
pred-image p m (or f g) = λ i. pred-image p m f i || pred-image p m g i
pred-image p m (imp f g) = λ i. pred-image p m f i || pred-image p m g i
pred-image p m (all f) = pred-image p m f
pred-image p m (ex f) = pred-image p m f

member_has : (p : Pred) (s : FormulaSet) (f : Formula) → set.has s f ≡ true → is_pred_in p f ≡ true → HasPredicate p s
member_has p s f e = some_passes (is_pred_in p) (set.listing s) f (sym (has-listing s f) ∙ e)

into_set : (p : Pred) (m : Replacing) (s t : FormulaSet) → set.IsSubset (image_set m s) t → HasPredicate p s → HasPredicate p t
into_set p m s t within =
    from_some (is_pred_in p) (set.listing s) (λ f e is.
    member_has p t (image m f) (within (image m f) (image_member m s f (has-listing s f ∙ e))) (pred-image p m f ∙ is))

pub predicates_subsumed : (c d : Sequent) → Subsumes c d → (p : Pred) (side : Side) → HasPredicate p (side_of c side) → HasPredicate p (side_of d side)
predicates_subsumed c d h p Left = into_set p h.map c.left d.left h.within.left
predicates_subsumed c d h p Right = into_set p h.map c.right d.right h.within.right

-- a predicate of an image is one of the set
from_image_set : (p : Pred) (m : Replacing) (s : FormulaSet) (q : Formula) → set.has (image_set m s) q ≡ true → is_pred_in p q ≡ true → HasPredicate p s
from_image_set p m s q e is = from_image m s q (λ f member made. member_has p s f member (sym (pred-image p m f) ∙ ap (is_pred_in p) (sym made) ∙ is)) e

predicate_of : (a : Formula) → is_atom a ≡ true → (p : Pred) × (is_pred_in p a ≡ true)
predicate_of (atom p ts) is = (p, (pred_equality_same p p (eq_by_cmp pred_cmp p p) refl).1 refl)
predicate_of a is = cc

pub partners : (c d r : Sequent) → IsFullResolvent c d r → ArePartners c d
partners c d r h =
    let s = h.resolves in
    let p = predicate_of s.atom s.of_atoms in
    let one = s.most_general.makes s.some_positive.one (in_first s.positive s.negative s.some_positive.one s.some_positive.is_one) in
    let two = s.most_general.makes s.some_negative.one (in_second s.positive s.negative s.some_negative.one s.some_negative.is_one) in
    record {
      predicate = p.0;
      on_right = from_image_set p.0 h.first_variant.there c.right s.some_positive.one
          (ap (λ (k : Sequent). set.has k.right s.some_positive.one) h.first_variant.is ∙ s.some_positive.within s.some_positive.one s.some_positive.is_one)
          (sym (pred-image p.0 s.unifier s.some_positive.one) ∙ ap (is_pred_in p.0) one ∙ p.1);
      on_left = from_image_set p.0 h.second_variant.there d.left s.some_negative.one
          (ap (λ (k : Sequent). set.has k.left s.some_negative.one) h.second_variant.is ∙ s.some_negative.within s.some_negative.one s.some_negative.is_one)
          (sym (pred-image p.0 s.unifier s.some_negative.one) ∙ ap (is_pred_in p.0) two ∙ p.1);
    }
