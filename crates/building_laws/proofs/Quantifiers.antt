-- The steps of quantifiers fit, and what they put in place of a tree.
use Rattle.std.proofs.Common.{◌≡◌, inl, inr, ◌+◌, ◌<◌, true, false, cond, List, [], ◌∷◌, Some, None, refl, ap, arith}
use Rattle.std.specs.Prelude.{option_map}
use Rattle.std.specs.Ordering.{eq_by_cmp}
use Rattle.fol.specs.declared.symbols.Var.{Var}
use Rattle.fol.specs.Syntax.{Term, free, Formula, all, ex}
use Rattle.fol.specs.Order.{var_cmp, formula_cmp}
use Rattle.fol.specs.Formed.{is_formed_var}
use Rattle.free_variables.specs.Occurrence.{is_free_in, is_free_in_term}
use Rattle.substitution.specs.Instance.{inst}
use Rattle.lk_rules.specs.declared.sequent.Side.{Side}
use Rattle.lk_rules.specs.declared.sequent.Side.TheVariants.{Left, Right}
use Rattle.lk_rules.specs.Rules.{has_shape, aux}
use Rattle.lk_rules.proofs.Subsequents.{and_left, and_right, and_both}
use Rattle.proof_trees.proofs.Booleans.{or_first, or_second, either}
use Rattle.search_laws.proofs.Listed.{among}
use Rattle.search_laws.proofs.Tests.{not_true}
use Rattle.expansion_laws.specs.Expansions.{Exp, wk, leaf, neg, conj, disj, impl, weak, strong, Insts, shallow}
use Rattle.expansion_laws.specs.Building.{is_instance, is_quantified}
use Rattle.expansion_laws.specs.Dependency.{strongs, strongs_in, is_above, is_above_in}
use Rattle.expansion_laws.specs.Proofs.{is_weak_on, is_strong_on}
use Rattle.building_laws.specs.Lists.{Placed, on, strongs_in_list}
use Rattle.building_laws.specs.Building.{strong_rule, weak_rule, parts_of, parts, Chosen, first_ready, instantiated, instance_of, instance_at}
use Rattle.building_laws.proofs.Conclusions.{is_formula}
use Rattle.building_laws.proofs.Counting.{count, count-append, count_first, not_counted}
use Rattle.building_laws.proofs.Instances.{instance_formed, instance_free, IsChosen, chosen}
use Rattle.building_laws.proofs.Parts.{alone, two_of, of_two, left_stands, right_stands, auxiliary, neg_fits, conj_fits, disj_fits, impl_fits}
use Rattle.building_laws.proofs.Right.{IsRight, is_helping, RuleFits, IsPremise, StepFits}

-- the rules of strong quantifiers

strong_shape : (s : Side) (f : Formula) (y : Var) → is_strong_on s f ≡ true → has_shape (strong_rule s f y) ≡ true
strong_shape Left (ex b) y e = refl
strong_shape Right (all b) y e = refl
strong_shape s f y e = cc

strong_auxiliary : (s : Side) (f : Formula) (y : Var) (g : Formula) → is_strong_on s f ≡ true → is_instance f (free y) g ≡ true → among (aux (strong_rule s f y) 0 s) g ≡ true
strong_auxiliary Left (ex b) y g e is = or_first (eq_by_cmp formula_cmp g (inst b (free y))) false is
strong_auxiliary Right (all b) y g e is = or_first (eq_by_cmp formula_cmp g (inst b (free y))) false is
strong_auxiliary s f y g e is = cc

-- those of weak quantifiers

weak_shape : (s : Side) (f : Formula) (t : Term) → is_weak_on s f ≡ true → has_shape (weak_rule s f t) ≡ true
weak_shape Left (all b) t e = refl
weak_shape Right (ex b) t e = refl
weak_shape s f t e = cc

weak_auxiliary : (s : Side) (f : Formula) (t : Term) (g : Formula) → is_weak_on s f ≡ true → is_instance f t g ≡ true → among (aux (weak_rule s f t) 0 s) g ≡ true
weak_auxiliary Left (all b) t g e is = or_first (eq_by_cmp formula_cmp g (inst b t)) false is
weak_auxiliary Right (ex b) t g e is = or_first (eq_by_cmp formula_cmp g (inst b t)) false is
weak_auxiliary s f t g e is = cc

module _ (vs : List Var) where
  module _ (s : Side) (f : Formula) (y : Var) (e : Exp) (h : IsRight (on s (strong f y e))) where
    is_its_instance : is_instance f (free y) (shallow e) ≡ true
    is_its_instance = and_left _ _ h.built

    strong_premise : IsPremise vs (strong_rule s f y) 0 (on s (strong f y e)) (on s e ∷ [])
    strong_premise = record {
      right = (
        record {
          built = and_right (is_instance f (free y) (shallow e)) _ h.built;
          stand = and_right (is_strong_on s f) _ h.stand;
          terms = and_right (is_formed_var y) _ h.terms;
          formed = instance_formed f (free y) (shallow e) is_its_instance h.formed (and_left _ _ h.terms);
        },
        tt,
      );
      helps = λ a x. or_first (is_helping a (on s e)) false x;
      over = λ w z x. alone _ x;
      counted = λ v. let part = count-append v (strongs e) [] in omega arith;
      free = λ v x. either (is_free_in v f) (eq_by_cmp var_cmp v y) inl
          (λ same.
          let first : count v (strongs (strong f y e)) ≡ 1 + count v (strongs e) = ap (λ b. cond b 1 0 + count v (strongs e)) same in
          let part = count-append v (strongs e) [] in
          let fewer : count v (strongs_in_list (on s e ∷ [])) < count v (strongs (strong f y e)) = omega arith in
          inr (inl fewer))
          (instance_free v f (free y) (shallow e) is_its_instance (alone _ x));
      formulas = λ side g x. or_second (is_formula side g (on s (strong f y e))) _
          (auxiliary (strong_rule s f y) 0 (on s e) (strong_auxiliary s f y (shallow e) (and_left _ _ h.stand) is_its_instance) side g (alone _ x));
    }

  strong_fits : (s : Side) (f : Formula) (y : Var) (e : Exp) → IsRight (on s (strong f y e)) → StepFits vs (on s (strong f y e)) (parts_of s (strong f y e))
  strong_fits Left f y e h = (
    record {
      number = refl;
      shape = strong_shape Left f y (and_left _ _ h.stand);
      uncut = refl;
      formed = and_both _ _ h.formed (and_left _ _ h.terms);
      stand = λ s m. left_stands _ m;
      eigenvariable = λ s out. out y (count_first y (strongs e));
    },
    (strong_premise Left f y e h, tt),
  )
  strong_fits Right f y e h = (
    record {
      number = refl;
      shape = strong_shape Right f y (and_left _ _ h.stand);
      uncut = refl;
      formed = and_both _ _ h.formed (and_left _ _ h.terms);
      stand = λ s m. right_stands _ m;
      eigenvariable = λ s out. out y (count_first y (strongs e));
    },
    (strong_premise Right f y e h, tt),
  )

  fits_of : (s : Side) (e : Exp) → IsRight (on s e) → StepFits vs (on s e) (parts_of s e)
  fits_of s (wk f) h = tt
  fits_of s (leaf f) h = tt
  fits_of s (neg e) h = neg_fits vs s e h
  fits_of s (conj d e) h = conj_fits vs s d e h
  fits_of s (disj d e) h = disj_fits vs s d e h
  fits_of s (impl d e) h = impl_fits vs s d e h
  fits_of s (weak f is) h = tt
  fits_of s (strong f y e) h = strong_fits s f y e h

  -- the step of a connective or a strong quantifier fits
  pub parts_fit : (p : Placed) → IsRight p → StepFits vs p (parts p)
  parts_fit p h = fits_of p.side p.tree h

  module _ (s : Side) (f : Formula) (is : Insts) (h : IsRight (on s (weak f is))) (c : Chosen) (k : IsChosen vs s f is c) where
    weak_premise : IsPremise vs (weak_rule s f c.term) 0 (on s (weak f is)) (on s (weak f c.others) ∷ on s c.tree ∷ [])
    weak_premise = record {
      right = (
        record { built = and_both _ _ (and_left _ _ h.built) k.others_built; stand = and_both _ _ (and_left _ _ h.stand) k.others_stand; terms = k.others_terms; formed = h.formed },
        (record { built = k.built; stand = k.stand; terms = k.terms; formed = instance_formed f c.term (shallow c.tree) k.instance h.formed k.term }, tt),
      );
      helps = λ a x. of_two (is_helping a (on s (weak f c.others))) (is_helping a (on s c.tree)) (k.helps a x);
      over = λ y z x. k.over y z (two_of (is_above_in y z false c.others) (is_above y z false c.tree) x);
      counted = λ v.
          let all = k.counted v in
          let part = count-append v (strongs_in c.others) (strongs_in_list (on s c.tree ∷ [])) in
          let rest = count-append v (strongs c.tree) [] in
          omega arith;
      free = λ v x. either (is_free_in v f) (is_free_in v (shallow c.tree)) inl
          (λ inside. either (is_free_in v f) (is_free_in_term v c.term) inl
          (λ in_term. inr (inr (not_counted (λ w. is_free_in_term w c.term) vs (not_true _ k.ready) v in_term)))
          (instance_free v f c.term (shallow c.tree) k.instance inside))
          (two_of (is_free_in v f) (is_free_in v (shallow c.tree)) x);
      formulas = λ side g x. either (is_formula side g (on s (weak f c.others))) (is_formula side g (on s c.tree))
          (or_first (is_formula side g (on s (weak f is))) _)
          (λ new. or_second (is_formula side g (on s (weak f is))) _
          (auxiliary (weak_rule s f c.term) 0 (on s c.tree) (weak_auxiliary s f c.term (shallow c.tree) (and_left _ _ h.stand) k.instance) side g new))
          (two_of (is_formula side g (on s (weak f c.others))) (is_formula side g (on s c.tree)) x);
    }

  weak_rule_fits : (s : Side) (f : Formula) (is : Insts) → IsRight (on s (weak f is)) → (c : Chosen) → IsChosen vs s f is c → RuleFits (on s (weak f is)) (weak_rule s f c.term) 1
  weak_rule_fits Left f is h c k = record {
    number = refl;
    shape = weak_shape Left f c.term (and_left _ _ h.stand);
    uncut = refl;
    formed = and_both _ _ h.formed k.term;
    stand = λ s m. left_stands _ m;
    eigenvariable = λ s out. refl;
  }
  weak_rule_fits Right f is h c k = record {
    number = refl;
    shape = weak_shape Right f c.term (and_left _ _ h.stand);
    uncut = refl;
    formed = and_both _ _ h.formed k.term;
    stand = λ s m. right_stands _ m;
    eigenvariable = λ s out. refl;
  }

  instance_fits_of : (s : Side) (e : Exp) → IsRight (on s e) → StepFits vs (on s e) (instance_of vs s e)
  instance_fits_of s (weak f is) h =
      elim (first_ready vs is) as (λ o. first_ready vs is ≡ o → StepFits vs (on s (weak f is)) (option_map (instantiated s f) o)) [
        | None ↦ λ _. tt
        | Some c ↦ λ e.
            let k : IsChosen vs s f is c = chosen vs s f is c e (and_right (is_quantified f) _ h.built) (and_right (is_weak_on s f) _ h.stand) h.terms in
            (weak_rule_fits s f is h c k, (weak_premise s f is h c k, tt))
      ] refl
  instance_fits_of s e h = tt

  -- the step of an instance fits
  pub instance_fits : (p : Placed) → IsRight p → StepFits vs p (instance_at vs p)
  instance_fits p h = instance_fits_of p.side p.tree h
