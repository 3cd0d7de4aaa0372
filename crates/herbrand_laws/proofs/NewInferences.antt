-- The inferences of the proof with the cut one by one, and what is searched.
use Rattle.std.proofs.Common.{◌≡◌, ℕ, true, List, ◌∷◌, ◌++◌, refl, subst}
use Rattle.std.specs.List.{list_all, Contains}
use Rattle.std.proofs.lemmas.List.Sums.{AllPass-from_list_all}
use Rattle.fol.specs.Formed.{is_formed}
use Rattle.finite.specs.Finite as set
use Rattle.lk_rules.specs.declared.sequent.Sequent.{Sequent}
use Rattle.lk_rules.specs.declared.sequent.Side.TheVariants.{Left, Right}
use Rattle.lk_rules.specs.declared.rule.Rule.{Rule}
use Rattle.lk_rules.specs.declared.rule.Rule.TheVariants.{Cut}
use Rattle.lk_rules.specs.Sequents.{adds_to, extended, IsSubsequent}
use Rattle.lk_rules.specs.Rules.{aux}
use Rattle.lk_rules.proofs.Subsequents.{and_left, and_right}
use Rattle.proof_trees.specs.Trees.{Tree, none, more, concl, IsInference}
use Rattle.refutations.proofs.Inferences.{cut}
use Rattle.search_laws.proofs.Found.{are_formed}
use Rattle.expansion_laws.specs.Dependency.{Expansion}
use Rattle.herbrand_laws.specs.Herbrand.{items_of, herbrand_sequent}
use Rattle.herbrand_laws.specs.Patterns.{TermSet}
use Rattle.herbrand_laws.specs.Candidates.{occurring}
use Rattle.herbrand_laws.specs.Introduction.{cut_variable, cut_formula, left_rules, right_rules, end_after, left_search, right_search, IsFormedProof, AreFormed}
use Rattle.herbrand_laws.proofs.RulesOver.{AreSteps, after_formed, step_at, first_steps, step_inference}
use Rattle.herbrand_laws.proofs.CutVariable.{variable_formed, variable_out}
use Rattle.herbrand_laws.proofs.CutFormula.{cut_formed}
use Rattle.herbrand_laws.proofs.Searches.{left_steps, left_end_formed, left_formed, right_steps, right_end_formed, right_formed}
use Rattle.herbrand_laws.proofs.Expanded.{sequent_formed, items_are, herbrand_formed}
use Rattle.herbrand_laws.proofs.NewProof.{values_formed}

formed_sides : (s : Sequent) → are_formed s ≡ true → AreFormed s
formed_sides s h = record {
  left = AllPass-from_list_all is_formed (set.listing s.left) (and_left _ _ h);
  right = AllPass-from_list_all is_formed (set.listing s.right) (and_right (list_all is_formed (set.listing s.left)) _ h);
}

pub herbrand_formulas : (x : Expansion) (s : Sequent) → IsFormedProof x s → AreFormed (herbrand_sequent (items_of x))
herbrand_formulas x s h = formed_sides (herbrand_sequent (items_of x)) (herbrand_formed x s h)

module _ (rs : List Rule) (e : Sequent) (steps : AreSteps rs e) where
  one_inference : (xs ys : List Rule) (r : Rule) → rs ≡ xs ++ (r ∷ ys) → (t : Tree) → IsSubsequent (concl t) (extended (end_after xs e) (aux r 0)) → IsInference r (end_after xs e) (more t none)
  one_inference xs ys r is t within = step_inference r (end_after xs e) t (step_at xs r ys e (subst (λ q. AreSteps q e) is steps)) within

  one_end : are_formed e ≡ true → (xs ys : List Rule) → rs ≡ xs ++ ys → AreFormed (end_after xs e)
  one_end formed xs ys is = formed_sides (end_after xs e) (after_formed xs e (first_steps xs ys e (subst (λ q. AreSteps q e) is steps)) formed)

module _ (width : ℕ) (x : Expansion) (s : Sequent) (w : TermSet) (h : IsFormedProof x s) where
  -- the root
  pub root_inference : (l r : Tree) → IsSubsequent (concl l) (adds_to s Right (cut_formula width s (items_of x) w)) → IsSubsequent (concl r) (adds_to s Left (cut_formula width s (items_of x) w))
      → IsInference (Cut (cut_formula width s (items_of x) w)) s (more l (more r none))
  root_inference l r within_l within_r =
      cut s (cut_formula width s (items_of x) w) l r (concl l) (concl r)
      (cut_formed (cut_variable s (items_of x)) s (variable_formed s (items_of x)) (variable_out s (items_of x)) (items_of x) (items_are x s h) width w) refl refl within_l within_r

  -- the left premise
  steps_left : AreSteps (left_rules width s (items_of x) w) (adds_to s Right (cut_formula width s (items_of x) w))
  steps_left = left_steps s (sequent_formed x s h) (items_of x) (items_are x s h) width w

  pub left_inference : (xs ys : List Rule) (r : Rule) (t : Tree) → left_rules width s (items_of x) w ≡ xs ++ (r ∷ ys) → let e = end_after xs (adds_to s Right (cut_formula width s (items_of x) w)) in IsSubsequent (concl t) (extended e (aux r 0)) → IsInference r e (more t none)
  left_inference xs ys r t is = one_inference (left_rules width s (items_of x) w) (adds_to s Right (cut_formula width s (items_of x) w)) steps_left xs ys r is t

  pub left_end : (xs ys : List Rule) → left_rules width s (items_of x) w ≡ xs ++ ys → AreFormed (end_after xs (adds_to s Right (cut_formula width s (items_of x) w)))
  left_end = one_end (left_rules width s (items_of x) w) (adds_to s Right (cut_formula width s (items_of x) w)) steps_left (left_end_formed s (sequent_formed x s h) (items_of x) (items_are x s h) width w)

  pub left_searched : AreFormed (left_search width s (items_of x) w)
  left_searched = formed_sides (left_search width s (items_of x) w) (left_formed s (sequent_formed x s h) (items_of x) (items_are x s h) width w)

  -- the right premise
  module _ (occurs : Contains (occurring width (items_of x)) w) where
    steps_right : AreSteps (right_rules width s (items_of x) w) (adds_to s Left (cut_formula width s (items_of x) w))
    steps_right = right_steps s (sequent_formed x s h) (items_of x) (items_are x s h) width w (values_formed x s h width w occurs)

    pub right_inference : (xs ys : List Rule) (r : Rule) (t : Tree) → right_rules width s (items_of x) w ≡ xs ++ (r ∷ ys) → let e = end_after xs (adds_to s Left (cut_formula width s (items_of x) w)) in IsSubsequent (concl t) (extended e (aux r 0)) → IsInference r e (more t none)
    right_inference xs ys r t is = one_inference (right_rules width s (items_of x) w) (adds_to s Left (cut_formula width s (items_of x) w)) steps_right xs ys r is t

    pub right_end : (xs ys : List Rule) → right_rules width s (items_of x) w ≡ xs ++ ys → AreFormed (end_after xs (adds_to s Left (cut_formula width s (items_of x) w)))
    right_end = one_end (right_rules width s (items_of x) w) (adds_to s Left (cut_formula width s (items_of x) w)) steps_right (right_end_formed s (sequent_formed x s h) (items_of x) (items_are x s h) width w (values_formed x s h width w occurs))

    pub right_searched : AreFormed (right_search width s (items_of x) w)
    right_searched = formed_sides (right_search width s (items_of x) w) (right_formed s (sequent_formed x s h) (items_of x) (items_are x s h) width w (values_formed x s h width w occurs))
