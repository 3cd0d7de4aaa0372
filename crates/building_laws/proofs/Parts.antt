-- The steps of connectives fit, and what they put in place of a tree.
use Rattle.std.proofs.Common.{◌≡◌, inl, ℕ, ◌+◌, Bool, true, false, ◌&&◌, ◌||◌, List, [], ◌∷◌, refl, ◌∙◌, arith}
use Rattle.fol.specs.declared.symbols.Var.{Var}
use Rattle.fol.specs.Syntax.{Formula, not, and, or, imp}
use Rattle.lk_rules.specs.declared.sequent.Side.{Side}
use Rattle.lk_rules.specs.declared.sequent.Side.TheVariants.{Left, Right}
use Rattle.lk_rules.specs.declared.rule.Rule.{Rule}
use Rattle.lk_rules.specs.Rules.{aux}
use Rattle.lk_rules.proofs.Subsequents.{and_left, and_right, and_both}
use Rattle.proof_trees.proofs.Booleans.{or_first, or_second, either}
use Rattle.proof_trees.proofs.FormulaSets.{equal}
use Rattle.search_laws.specs.Truth.{Assignment}
use Rattle.search_laws.proofs.Listed.{among, among_first, among_later}
use Rattle.expansion_laws.specs.Expansions.{Exp, neg, conj, disj, impl, shallow, turn}
use Rattle.expansion_laws.specs.Building.{is_built}
use Rattle.expansion_laws.specs.Dependency.{strongs}
use Rattle.expansion_laws.specs.Proofs.{stands}
use Rattle.building_laws.specs.Lists.{Placed, on, strongs_in_list}
use Rattle.building_laws.specs.Building.{and_rule, or_rule, imp_rule, neg_rule, parts_of}
use Rattle.building_laws.specs.Buildable.{has_formed_terms}
use Rattle.building_laws.proofs.Counting.{count, count-append}
use Rattle.building_laws.proofs.Conclusions.{same_side, side_same, is_formula, is_free_at}
use Rattle.building_laws.proofs.Right.{IsRight, is_helping, is_over, IsPremise, StepFits}

-- one test alone, and two

pub alone : (a : Bool) → (a || false) ≡ true → a ≡ true
alone true e = refl
alone false e = e

pub two_of : (a b : Bool) → (a || (b || false)) ≡ true → (a || b) ≡ true
two_of true b e = refl
two_of false b e = alone b e

pub of_two : (a b : Bool) → (a || b) ≡ true → (a || (b || false)) ≡ true
of_two true b e = refl
of_two false b e = or_first b false e

-- the main formula stands in a sequent

pub left_stands : (b : Bool) → b ≡ true → ((b && true) && true) ≡ true
left_stands b e = and_both _ _ (and_both _ _ e refl) refl

pub right_stands : (b : Bool) → b ≡ true → (b && true) ≡ true
right_stands b e = and_both _ _ e refl

-- a tree whose formula is an auxiliary formula
pub auxiliary : (r : Rule) (i : ℕ) (q : Placed) → among (aux r i q.side) (shallow q.tree) ≡ true → (side : Side) (f : Formula) → is_formula side f q ≡ true → among (aux r i side) f ≡ true
auxiliary r i q m side f e =
    let same : side ≡ q.side = side_same side q.side (and_left _ _ e) in
    let is : f ≡ shallow q.tree = equal f (shallow q.tree) (and_right (same_side side q.side) _ e) in
    (λ j. among (aux r i (same j)) (is j)) ∙ m

-- p has the trees q and k as its parts
pub record IsPair (p q k : Placed) : Type 0 where
  pub first : IsRight p → IsRight q
  pub second : IsRight p → IsRight k
  pub over : (y z : Var) → is_over y z p ≡ (is_over y z q || is_over y z k)
  pub free : (v : Var) → is_free_at v p ≡ (is_free_at v q || is_free_at v k)
  pub counted : (v : Var) → count v (strongs p.tree) ≡ count v (strongs q.tree) + count v (strongs k.tree)

conj_pair : (s : Side) (d e : Exp) → IsPair (on s (conj d e)) (on s d) (on s e)
conj_pair s d e = record {
  first = λ h. record { built = and_left _ _ h.built; stand = and_left _ _ h.stand; terms = and_left _ _ h.terms; formed = and_left _ _ h.formed };
  second = λ h. record {
    built = and_right (is_built d) _ h.built;
    stand = and_right (stands s d) _ h.stand;
    terms = and_right (has_formed_terms d) _ h.terms;
    formed = and_right _ _ h.formed;
  };
  over = λ y z. refl;
  free = λ v. refl;
  counted = λ v. count-append v (strongs d) (strongs e);
}

disj_pair : (s : Side) (d e : Exp) → IsPair (on s (disj d e)) (on s d) (on s e)
disj_pair s d e = record {
  first = λ h. record { built = and_left _ _ h.built; stand = and_left _ _ h.stand; terms = and_left _ _ h.terms; formed = and_left _ _ h.formed };
  second = λ h. record {
    built = and_right (is_built d) _ h.built;
    stand = and_right (stands s d) _ h.stand;
    terms = and_right (has_formed_terms d) _ h.terms;
    formed = and_right _ _ h.formed;
  };
  over = λ y z. refl;
  free = λ v. refl;
  counted = λ v. count-append v (strongs d) (strongs e);
}

impl_pair : (s : Side) (d e : Exp) → IsPair (on s (impl d e)) (on (turn s) d) (on s e)
impl_pair s d e = record {
  first = λ h. record { built = and_left _ _ h.built; stand = and_left _ _ h.stand; terms = and_left _ _ h.terms; formed = and_left _ _ h.formed };
  second = λ h. record {
    built = and_right (is_built d) _ h.built;
    stand = and_right (stands (turn s) d) _ h.stand;
    terms = and_right (has_formed_terms d) _ h.terms;
    formed = and_right _ _ h.formed;
  };
  over = λ y z. refl;
  free = λ v. refl;
  counted = λ v. count-append v (strongs d) (strongs e);
}

module _ (vs : List Var) (r : Rule) (i : ℕ) (p q k : Placed) (pair : IsPair p q k) (h : IsRight p) where
  -- the first part alone
  first_premise : ((a : Assignment) → is_helping a p ≡ true → is_helping a q ≡ true) → among (aux r i q.side) (shallow q.tree) ≡ true → IsPremise vs r i p (q ∷ [])
  first_premise helps m = record {
    right = (pair.first h, tt);
    helps = λ a e. or_first (is_helping a q) false (helps a e);
    over = λ y z e. pair.over y z ∙ or_first (is_over y z q) (is_over y z k) (alone _ e);
    counted = λ v. let all = pair.counted v in let part = count-append v (strongs q.tree) [] in omega arith;
    free = λ v e. inl (pair.free v ∙ or_first (is_free_at v q) (is_free_at v k) (alone _ e));
    formulas = λ side f e. or_second (is_formula side f p) _ (auxiliary r i q m side f (alone _ e));
  }

  -- the second part alone
  second_premise : ((a : Assignment) → is_helping a p ≡ true → is_helping a k ≡ true) → among (aux r i k.side) (shallow k.tree) ≡ true → IsPremise vs r i p (k ∷ [])
  second_premise helps m = record {
    right = (pair.second h, tt);
    helps = λ a e. or_first (is_helping a k) false (helps a e);
    over = λ y z e. pair.over y z ∙ or_second (is_over y z q) (is_over y z k) (alone _ e);
    counted = λ v. let all = pair.counted v in let part = count-append v (strongs k.tree) [] in omega arith;
    free = λ v e. inl (pair.free v ∙ or_second (is_free_at v q) (is_free_at v k) (alone _ e));
    formulas = λ side f e. or_second (is_formula side f p) _ (auxiliary r i k m side f (alone _ e));
  }

  -- both parts
  both_premise : ((a : Assignment) → is_helping a p ≡ true → (is_helping a q || is_helping a k) ≡ true) → among (aux r i q.side) (shallow q.tree) ≡ true → among (aux r i k.side) (shallow k.tree) ≡ true
      → IsPremise vs r i p (q ∷ k ∷ [])
  both_premise helps m n = record {
    right = (pair.first h, (pair.second h, tt));
    helps = λ a e. of_two (is_helping a q) (is_helping a k) (helps a e);
    over = λ y z e. pair.over y z ∙ two_of (is_over y z q) (is_over y z k) e;
    counted = λ v.
        let all = pair.counted v in
        let part = count-append v (strongs q.tree) (strongs_in_list (k ∷ [])) in
        let rest = count-append v (strongs k.tree) [] in
        omega arith;
    free = λ v e. inl (pair.free v ∙ two_of (is_free_at v q) (is_free_at v k) e);
    formulas = λ side f e.
        or_second (is_formula side f p) _
        (either (is_formula side f q) (is_formula side f k) (auxiliary r i q m side f) (auxiliary r i k n side f) (two_of (is_formula side f q) (is_formula side f k) e));
  }

module _ (vs : List Var) where
  neg_premise : (r : Rule) (s : Side) (e : Exp) → IsRight (on s (neg e)) → among (aux r 0 (turn s)) (shallow e) ≡ true → IsPremise vs r 0 (on s (neg e)) (on (turn s) e ∷ [])
  neg_premise r s e h m = record {
    right = (record { built = h.built; stand = h.stand; terms = h.terms; formed = h.formed }, tt);
    helps = λ a x. or_first (is_helping a (on (turn s) e)) false x;
    over = λ y z x. alone _ x;
    counted = λ v. let part = count-append v (strongs e) [] in omega arith;
    free = λ v x. inl (alone _ x);
    formulas = λ side f x. or_second (is_formula side f (on s (neg e))) _ (auxiliary r 0 (on (turn s) e) m side f (alone _ x));
  }

  pub neg_fits : (s : Side) (e : Exp) → IsRight (on s (neg e)) → StepFits vs (on s (neg e)) (parts_of s (neg e))
  neg_fits Left e h = (
    record { number = refl; shape = refl; uncut = refl; formed = h.formed; stand = λ s m. left_stands _ m; eigenvariable = λ s out. refl },
    (neg_premise (neg_rule Left (not (shallow e))) Left e h (among_first (shallow e) []), tt),
  )
  neg_fits Right e h = (
    record { number = refl; shape = refl; uncut = refl; formed = h.formed; stand = λ s m. right_stands _ m; eigenvariable = λ s out. refl },
    (neg_premise (neg_rule Right (not (shallow e))) Right e h (among_first (shallow e) []), tt),
  )

  pub conj_fits : (s : Side) (d e : Exp) → IsRight (on s (conj d e)) → StepFits vs (on s (conj d e)) (parts_of s (conj d e))
  conj_fits Left d e h = (
    record { number = refl; shape = refl; uncut = refl; formed = h.formed; stand = λ s m. left_stands _ m; eigenvariable = λ s out. refl },
    (
      both_premise vs (and_rule Left (and (shallow d) (shallow e))) 0 (on Left (conj d e)) (on Left d) (on Left e) (conj_pair Left d e) h (λ a x. x)
          (among_first (shallow d) (shallow e ∷ [])) (among_later (shallow e) (shallow d) (shallow e ∷ []) (among_first (shallow e) [])),
      tt,
    ),
  )
  conj_fits Right d e h = (
    record { number = refl; shape = refl; uncut = refl; formed = h.formed; stand = λ s m. right_stands _ m; eigenvariable = λ s out. refl },
    (
      first_premise vs (and_rule Right (and (shallow d) (shallow e))) 0 (on Right (conj d e)) (on Right d) (on Right e) (conj_pair Right d e) h (λ a x. and_left _ _ x) (among_first (shallow d) []),
      (
        second_premise vs (and_rule Right (and (shallow d) (shallow e))) 1 (on Right (conj d e)) (on Right d) (on Right e) (conj_pair Right d e) h
            (λ a x. and_right (is_helping a (on Right d)) _ x) (among_first (shallow e) []),
        tt,
      ),
    ),
  )

  pub disj_fits : (s : Side) (d e : Exp) → IsRight (on s (disj d e)) → StepFits vs (on s (disj d e)) (parts_of s (disj d e))
  disj_fits Left d e h = (
    record { number = refl; shape = refl; uncut = refl; formed = h.formed; stand = λ s m. left_stands _ m; eigenvariable = λ s out. refl },
    (
      first_premise vs (or_rule Left (or (shallow d) (shallow e))) 0 (on Left (disj d e)) (on Left d) (on Left e) (disj_pair Left d e) h (λ a x. and_left _ _ x) (among_first (shallow d) []),
      (
        second_premise vs (or_rule Left (or (shallow d) (shallow e))) 1 (on Left (disj d e)) (on Left d) (on Left e) (disj_pair Left d e) h
            (λ a x. and_right (is_helping a (on Left d)) _ x) (among_first (shallow e) []),
        tt,
      ),
    ),
  )
  disj_fits Right d e h = (
    record { number = refl; shape = refl; uncut = refl; formed = h.formed; stand = λ s m. right_stands _ m; eigenvariable = λ s out. refl },
    (
      both_premise vs (or_rule Right (or (shallow d) (shallow e))) 0 (on Right (disj d e)) (on Right d) (on Right e) (disj_pair Right d e) h (λ a x. x)
          (among_first (shallow d) (shallow e ∷ [])) (among_later (shallow e) (shallow d) (shallow e ∷ []) (among_first (shallow e) [])),
      tt,
    ),
  )

  pub impl_fits : (s : Side) (d e : Exp) → IsRight (on s (impl d e)) → StepFits vs (on s (impl d e)) (parts_of s (impl d e))
  impl_fits Left d e h = (
    record { number = refl; shape = refl; uncut = refl; formed = h.formed; stand = λ s m. left_stands _ m; eigenvariable = λ s out. refl },
    (
      first_premise vs (imp_rule Left (imp (shallow d) (shallow e))) 0 (on Left (impl d e)) (on Right d) (on Left e) (impl_pair Left d e) h (λ a x. and_left _ _ x) (among_first (shallow d) []),
      (
        second_premise vs (imp_rule Left (imp (shallow d) (shallow e))) 1 (on Left (impl d e)) (on Right d) (on Left e) (impl_pair Left d e) h
            (λ a x. and_right (is_helping a (on Right d)) _ x) (among_first (shallow e) []),
        tt,
      ),
    ),
  )
  impl_fits Right d e h = (
    record { number = refl; shape = refl; uncut = refl; formed = h.formed; stand = λ s m. right_stands _ m; eigenvariable = λ s out. refl },
    (
      both_premise vs (imp_rule Right (imp (shallow d) (shallow e))) 0 (on Right (impl d e)) (on Left d) (on Right e) (impl_pair Right d e) h (λ a x. x)
          (among_first (shallow d) []) (among_first (shallow e) []),
      tt,
    ),
  )
