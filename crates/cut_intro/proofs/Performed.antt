-- The proof with a cut, by the parts over proofs of what is searched.
use Rattle.std.proofs.Common.{◌≡◌, ℕ, Some, inl, inr, sym, ap, subst, ◌∙◌}
use Rattle.lk_rules.specs.declared.sequent.Sequent.{Sequent}
use Rattle.lk_rules.specs.declared.rule.Rule.TheVariants.{Cut}
use Rattle.proof_trees.specs.Trees.{Tree, node, none, more, concl, IsInference}
use Rattle.search_laws.specs.Search.{Walk, proved, walk}
use Rattle.search_laws.proofs.Found.{found}
use Rattle.herbrand_laws.specs.Introduction.{from_walks}
use Rattle.introduction_laws.specs.declared.fault.IntroFault.{IntroFault}
use Rattle.introduction_laws.specs.declared.fault.IntroFault.TheVariants as fault
use Rattle.cut_intro.specs.declared.performing.Cutting.{Cutting}
use Rattle.cut_intro.specs.Branches.{over_each, AreInferences}
use Rattle.cut_intro.specs.Performing.{tree_with, performed, IsShort, IsShortOfOne, IsReady}

module _ (s : Sequent) (c : Cutting) (h : IsReady s c) where
  pub left_right : (l : Tree) → walk c.left.searched ≡ proved l → AreInferences c.left.inferences.items l
  left_right l e = h.left l (found c.left.searched l e).end

  pub right_right : (r : Tree) → walk c.right.searched ≡ proved r → AreInferences c.right.inferences.items r
  right_right r e = h.right r (found c.right.searched r e).end

  module _ (l r : Tree) (found_l : walk c.left.searched ≡ proved l) (found_r : walk c.right.searched ≡ proved r) where
    module _ (e : Sequent) (first second : Tree) (is_e : e ≡ s) (is_first : first ≡ over_each c.left.inferences.items l) (is_second : second ≡ over_each c.right.inferences.items r) where
      pub root_right : IsInference (Cut c.formula) e (more first (more second none))
      root_right =
          let one = h.root l r (found c.left.searched l found_l).end (found c.right.searched r found_r).end in
          subst (λ (P : Type 0). P) (λ i. IsInference (Cut c.formula) (sym is_e i) (more (sym is_first i) (more (sym is_second i) none))) one

      pub is_performed : (t : Tree) → t ≡ node (Cut c.formula) e (more first (more second none)) → performed s c ≡ Some t
      is_performed t is =
          (λ i. from_walks (tree_with s c) (found_l i) (found_r i))
          ∙ ap Some (sym (is ∙ λ i. node (Cut c.formula) (is_e i) (more (is_first i) (more (is_second i) none))))

-- a search that visits too many sequents is one of the two
pub short_first : (f : IntroFault) (n : ℕ) (v w : Walk) → IsShort f n v → IsShortOfOne f n v w
short_first fault.Budget n v w h = inl h
short_first fault.Memory n v w h = tt
short_first (fault.Cut k) n v w h = h
short_first (fault.NotPrenex f side) n v w h = h
short_first (fault.TooMany k) n v w h = h

pub short_second : (f : IntroFault) (n : ℕ) (v w : Walk) → IsShort f n w → IsShortOfOne f n v w
short_second fault.Budget n v w h = inr h
short_second fault.Memory n v w h = tt
short_second (fault.Cut k) n v w h = h
short_second (fault.NotPrenex f side) n v w h = h
short_second (fault.TooMany k) n v w h = h
