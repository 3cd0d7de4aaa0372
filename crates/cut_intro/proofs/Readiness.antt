-- The parts of a proof with a cut by a candidate fit together.
use Rattle.std.proofs.Common.{◌≡◌, ℕ, List, Some, refl, sym, ap, subst, ◌∙◌}
use Rattle.std.specs.Prelude.{Result}
use Rattle.std.specs.List.{Contains}
use Rattle.fol.specs.Syntax.{Formula}
use Rattle.lk_rules.specs.declared.sequent.Sequent.{Sequent}
use Rattle.lk_rules.specs.declared.sequent.Side.TheVariants.{Left, Right}
use Rattle.lk_rules.specs.declared.rule.Rule.{Rule}
use Rattle.lk_rules.specs.declared.rule.Rule.TheVariants.{Cut}
use Rattle.lk_rules.specs.Sequents.{adds_to, IsSubsequent}
use Rattle.proof_trees.specs.Trees.{Tree, node, none, more, concl, IsInference}
use Rattle.search_laws.specs.Truth.{IsPropositional}
use Rattle.search_laws.specs.Search.{Walk, proved, walk}
use Rattle.proof_graph.specs.References.{Reference}
use Rattle.prop_search.specs.Deciding.{IsProved}
use Rattle.expansion_laws.specs.Dependency.{Expansion}
use Rattle.herbrand_laws.specs.Herbrand.{Item, items_of}
use Rattle.herbrand_laws.specs.Patterns.{TermSet}
use Rattle.herbrand_laws.specs.Candidates.{occurring, cost}
use Rattle.herbrand_laws.specs.Introduction.{cut_formula, left_rules, right_rules, end_after, over, left_search, right_search, new_proof, from_walks, introduced, IsFormedProof, IsProofWithCut}
use Rattle.herbrand_laws.proofs.PlainPart.{plain_within, plain_propositional}
use Rattle.herbrand_laws.proofs.NewInferences.{root_inference, left_inference, right_inference}
use Rattle.herbrand_laws.proofs.NewProof.{left_found, right_found, introduced_with_cut}
use Rattle.introduction_laws.specs.declared.fault.IntroFault.{IntroFault}
use Rattle.cut_intro.specs.declared.performing.Cutting.{Cutting}
use Rattle.cut_intro.specs.Branches.{inferences, over_each, AreInferences, AreUsable}
use Rattle.cut_intro.specs.Performing.{tree_with, performed, IsReady, Performs}
use Rattle.cut_intro.specs.Cuttings.{IsCuttingFor}
use Rattle.cut_intro.specs.Instancing.{AreInstancesFor}
use Rattle.cut_intro.proofs.BranchSteps.{over_inferences, end_over, right_inferences}

is_proved : (v w : Walk) (t : Tree) → v ≡ w → w ≡ proved t → IsProved v
is_proved v w t same found = subst (λ u. IsProved u) (sym (same ∙ found)) tt

-- what is searched is within the end sequent above the rules
within_end : (t : Tree) (s e : Sequent) → concl t ≡ s → s ≡ e → (top : Sequent) → IsSubsequent e top → IsSubsequent (concl t) top
within_end t s e is same top h = subst (λ q. IsSubsequent q top) (sym (is ∙ same)) h

module _ (width : ℕ) (s : Sequent) (x : Expansion) (w : TermSet) (h : IsFormedProof x s) where
  left_usable : AreUsable (left_rules width s (items_of x) w) (adds_to s Right (cut_formula width s (items_of x) w))
  left_usable before after r t is within = left_inference width x s w h before after r t is within

  right_usable : Contains (occurring width (items_of x)) w → AreUsable (right_rules width s (items_of x) w) (adds_to s Left (cut_formula width s (items_of x) w))
  right_usable occurs before after r t is within = right_inference width x s w h occurs before after r t is within

  module _ (occurs : Contains (occurring width (items_of x)) w) (c : Cutting) (k : IsCuttingFor width s (items_of x) w c) where
    abbrev first_end : Sequent
    first_end = adds_to s Right (cut_formula width s (items_of x) w)

    abbrev second_end : Sequent
    second_end = adds_to s Left (cut_formula width s (items_of x) w)

    abbrev first_rules : List Rule
    first_rules = left_rules width s (items_of x) w

    abbrev second_rules : List Rule
    second_rules = right_rules width s (items_of x) w

    within_left : (t : Tree) → concl t ≡ c.left.searched → IsSubsequent (concl t) (end_after first_rules first_end)
    within_left t e = within_end t c.left.searched (left_search width s (items_of x) w) e k.left_searched (end_after first_rules first_end) (plain_within (end_after first_rules first_end))

    within_right : (t : Tree) → concl t ≡ c.right.searched → IsSubsequent (concl t) (end_after second_rules second_end)
    within_right t e = within_end t c.right.searched (right_search width s (items_of x) w) e k.right_searched (end_after second_rules second_end) (plain_within (end_after second_rules second_end))

    root : (l r : Tree) → concl l ≡ c.left.searched → concl r ≡ c.right.searched → IsInference (Cut c.formula) s (more (over_each c.left.inferences.items l) (more (over_each c.right.inferences.items r) none))
    root l r e f =
        let one = root_inference width x s w h (over_each (inferences first_rules first_end) l) (over_each (inferences second_rules second_end) r)
        (end_over first_rules first_end l (within_left l e)) (end_over second_rules second_end r (within_right r f)) in
        subst (λ (P : Type 0). P) (λ i. IsInference (Cut (sym k.formula i)) s (more (over_each (sym k.left i) l) (more (over_each (sym k.right i) r) none))) one

    ready_of : IsReady s c
    ready_of = record {
      left_propositional = subst (λ q. IsPropositional q) (sym k.left_searched) (plain_propositional (end_after first_rules first_end));
      right_propositional = subst (λ q. IsPropositional q) (sym k.right_searched) (plain_propositional (end_after second_rules second_end));
      left_proved = let found = left_found x s h width w occurs in is_proved (walk c.left.searched) (walk (left_search width s (items_of x) w)) found.0 (ap walk k.left_searched) found.1;
      right_proved = let found = right_found x s h width w occurs in is_proved (walk c.right.searched) (walk (right_search width s (items_of x) w)) found.0 (ap walk k.right_searched) found.1;
      left = λ t e. subst (λ is. AreInferences is t) (sym k.left) (right_inferences first_rules first_end t left_usable (within_left t e));
      right = λ t e. subst (λ is. AreInferences is t) (sym k.right) (right_inferences second_rules second_end t (right_usable occurs) (within_right t e));
      root = root;
    }

module _ (width : ℕ) (s : Sequent) (items : List Item) (w : TermSet) (c : Cutting) (k : IsCuttingFor width s items w c) where
  same_tree : (l r : Tree) → tree_with s c l r ≡ new_proof width s items w l r
  same_tree l r =
      let d = cut_formula width s items w in
      (λ i. node (Cut (k.formula i)) s (more (over_each (k.left i) l) (more (over_each (k.right i) r) none)))
      ∙ λ i. node (Cut d) s (more (over_inferences (left_rules width s items w) (adds_to s Right d) l i) (more (over_inferences (right_rules width s items w) (adds_to s Left d) r i) none))

  -- the proof by the parts is that by the candidate
  pub performed_is : performed s c ≡ introduced width s items w
  performed_is = λ i. from_walks (λ l r. same_tree l r i) (walk (k.left_searched i)) (walk (k.right_searched i))

  makes_for : (result : Result Reference IntroFault) (n : ℕ) → Performs result n (walk c.left.searched) (walk c.right.searched) (performed s c)
      → Performs result n (walk (left_search width s items w)) (walk (right_search width s items w)) (introduced width s items w)
  makes_for result n h = subst (λ (P : Type 0). P) (λ i. Performs result n (walk (k.left_searched i)) (walk (k.right_searched i)) (performed_is i)) h

-- what is made by the parts is what is made for the candidate
pub makes_at : (e s : Sequent) → e ≡ s → (width : ℕ) (items : List Item) (w : TermSet) (c : Cutting) → IsCuttingFor width e items w c → (result : Result Reference IntroFault) (n : ℕ)
    → Performs result n (walk c.left.searched) (walk c.right.searched) (performed e c) → Performs result n (walk (left_search width s items w)) (walk (right_search width s items w)) (introduced width s items w)
makes_at e s is width items w c k result n h =
    subst (λ q. Performs result n (walk (left_search width q items w)) (walk (right_search width q items w)) (introduced width q items w)) is (makes_for width e items w c k result n h)

-- both searches find proofs, and the inferences are right over them
pub ready : (s : Sequent) (items : List Item) → AreInstancesFor s items → (width : ℕ) (w : TermSet) → Contains (occurring width items) w → (c : Cutting) → IsCuttingFor width s items w c → IsReady s c
ready s items h width w =
    subst (λ is. Contains (occurring width is) w → (c : Cutting) → IsCuttingFor width s is w c → IsReady s c) (sym h.of_trees) (ready_of width s h.expansion w h.proof)

pub usable_left : (s : Sequent) (items : List Item) → AreInstancesFor s items → (width : ℕ) (w : TermSet) → AreUsable (left_rules width s items w) (adds_to s Right (cut_formula width s items w))
usable_left s items h width w =
    subst (λ is. AreUsable (left_rules width s is w) (adds_to s Right (cut_formula width s is w))) (sym h.of_trees) (left_usable width s h.expansion w h.proof)

pub usable_right : (s : Sequent) (items : List Item) → AreInstancesFor s items → (width : ℕ) (w : TermSet) → Contains (occurring width items) w → AreUsable (right_rules width s items w) (adds_to s Left (cut_formula width s items w))
usable_right s items h width w =
    subst (λ is. Contains (occurring width is) w → AreUsable (right_rules width s is w) (adds_to s Left (cut_formula width s is w))) (sym h.of_trees) (right_usable width s h.expansion w h.proof)

-- what is introduced is a valid proof with one cut and as many quantifier inferences as the candidate costs
pub with_one_cut : (s : Sequent) (items : List Item) → AreInstancesFor s items → (width : ℕ) (w : TermSet) → Contains (occurring width items) w → (u : Tree) → introduced width s items w ≡ Some u → IsProofWithCut s (cost width items w) u
with_one_cut s items h width w =
    subst (λ is. Contains (occurring width is) w → (u : Tree) → introduced width s is w ≡ Some u → IsProofWithCut s (cost width is w) u) (sym h.of_trees) (introduced_with_cut h.expansion s h.proof width w)
