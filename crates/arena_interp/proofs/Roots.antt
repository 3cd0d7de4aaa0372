-- The interpolation of an inference by its rule and the trees of its premises.
use Rattle.std.proofs.Common.{◌≡◌, suc, ◌<◌, true, max, refl, sym, ap, subst, ◌∙◌, arith}
use Rattle.std.proofs.Math.Nat.{le-max_left}
use Rattle.fol.specs.Syntax.{Formula}
use Rattle.finite.specs.Finite as set
use Rattle.lk_rules.specs.declared.sequent.Sequent.{Sequent}
use Rattle.lk_rules.specs.declared.sequent.Side.{Side}
use Rattle.lk_rules.specs.declared.rule.Rule.{Rule}
use Rattle.lk_rules.specs.declared.rule.Rule.TheVariants.{Ax, Weak}
use Rattle.proof_trees.specs.Trees.{Tree, node, Trees, none, more, concl, rule_of, below}
use Rattle.proof_trees.specs.Shapes.{height, height_all}
use Rattle.interp_laws.specs.Interpolation.{Interpolation, part_of, at_leaf, at_axiom, first_above, second_above, above, joined, has_main, itp}
use Rattle.interp_laws.specs.Parts.{HasParts}

-- a tree by its last rule and the trees of its premises
pub rooted : (t : Tree) (r : Rule) (ts : Trees) → rule_of t ≡ r → below t ≡ ts → t ≡ node r (concl t) ts
rooted (node q s us) r ts rule above = λ i. node (rule i) s (above i)

-- what the laws say of each kind of inference
abbrev pub AxiomStep : Type 0
AxiomStep = (a : Formula) (s : Sequent) (ts : Trees) (one two : Sequent) → itp (node (Ax a) s ts) one two ≡ at_axiom a one two (set.has one.left a) (set.has one.right a)

abbrev pub WeakStep : Type 0
WeakStep = (s : Sequent) (p : Tree) (one two : Sequent) → itp (node Weak s (more p none)) one two ≡ itp p one two

abbrev pub WeakDescends : Type 0
WeakDescends = (s : Sequent) (p : Tree) (one two : Sequent) → HasParts (node Weak s (more p none)) one two → HasParts p one two

abbrev pub LeafStep : Type 0
LeafStep = (r : Rule) (s : Sequent) (one two : Sequent) → has_main r ≡ true → itp (node r s none) one two ≡ at_leaf (part_of r one) r one two

abbrev pub TwoStep : Type 0
TwoStep = (r : Rule) (s : Sequent) (p q : Tree) (one two : Sequent) → has_main r ≡ true → let m = part_of r one in itp (node r s (more p (more q none))) one two ≡ joined m r one two (above itp m r 0 p one two) (above itp m r 1 q one two)

abbrev pub FirstDescends : Type 0
FirstDescends = (m : Side) (r : Rule) (s : Sequent) (p q : Tree) (one two : Sequent) → HasParts (node r s (more p (more q none))) one two → HasParts p (first_above m r 0 one) (second_above m r 0 two)

abbrev pub SecondDescends : Type 0
SecondDescends = (m : Side) (r : Rule) (s : Sequent) (p q : Tree) (one two : Sequent) → HasParts (node r s (more p (more q none))) one two → HasParts q (first_above m r 1 one) (second_above m r 1 two)

module _ (t : Tree) (one two : Sequent) where
  pub axiom_step : AxiomStep → (a : Formula) → rule_of t ≡ Ax a → at_axiom a one two (set.has one.left a) (set.has one.right a) ≡ itp t one two
  axiom_step law a rule = sym (law a (concl t) (below t) one two) ∙ ap (λ (u : Tree). itp u one two) (sym (rooted t (Ax a) (below t) rule refl))

  module _ (p : Tree) (rule : rule_of t ≡ Weak) (above : below t ≡ more p none) where
    pub weak_step : WeakStep → itp p one two ≡ itp t one two
    weak_step law = sym (law (concl t) p one two) ∙ ap (λ (u : Tree). itp u one two) (sym (rooted t Weak (more p none) rule above))

    pub weak_descends : WeakDescends → HasParts t one two → HasParts p one two
    weak_descends law h = law (concl t) p one two (subst (λ (u : Tree). HasParts u one two) (rooted t Weak (more p none) rule above) h)

  pub leaf_step : LeafStep → below t ≡ none → has_main (rule_of t) ≡ true → at_leaf (part_of (rule_of t) one) (rule_of t) one two ≡ itp t one two
  leaf_step law above main = sym (law (rule_of t) (concl t) one two main) ∙ ap (λ (u : Tree). itp u one two) (sym (rooted t (rule_of t) none refl above))

  module _ (p q : Tree) (both : below t ≡ more p (more q none)) where
    here : t ≡ node (rule_of t) (concl t) (more p (more q none))
    here = rooted t (rule_of t) (more p (more q none)) refl both

    pub two_step : TwoStep → has_main (rule_of t) ≡ true → let m = part_of (rule_of t) one in joined m (rule_of t) one two (above itp m (rule_of t) 0 p one two) (above itp m (rule_of t) 1 q one two) ≡ itp t one two
    two_step law main = sym (law (rule_of t) (concl t) p q one two main) ∙ ap (λ (u : Tree). itp u one two) (sym here)

    pub two_made : TwoStep → has_main (rule_of t) ≡ true → (r : Rule) (m : Side) (i j : Interpolation) → r ≡ rule_of t → m ≡ part_of r one → i ≡ above itp m r 0 p one two → j ≡ above itp m r 1 q one two → joined m r one two i j ≡ itp t one two
    two_made law main r m i j rule side first second =
        let name : m ≡ part_of (rule_of t) one = side ∙ ap (λ (x : Rule). part_of x one) rule in
        (λ k. joined m r one two (first k) (second k)) ∙ (λ k. joined (name k) (rule k) one two (above itp (name k) (rule k) 0 p one two) (above itp (name k) (rule k) 1 q one two)) ∙ two_step law main

    pub first_descends : FirstDescends → (m : Side) → HasParts t one two → HasParts p (first_above m (rule_of t) 0 one) (second_above m (rule_of t) 0 two)
    first_descends law m h = law m (rule_of t) (concl t) p q one two (subst (λ (u : Tree). HasParts u one two) here h)

    pub second_descends : SecondDescends → (m : Side) → HasParts t one two → HasParts q (first_above m (rule_of t) 1 one) (second_above m (rule_of t) 1 two)
    second_descends law m h = law m (rule_of t) (concl t) p q one two (subst (λ (u : Tree). HasParts u one two) here h)

-- the trees of the premises are less high
height_below : (t : Tree) → height t ≡ suc (height_all (below t))
height_below (node r s ts) = refl

pub first_lower : (t p : Tree) (ts : Trees) → below t ≡ more p ts → height p < height t
first_lower t p ts above =
    let whole : height t ≡ suc (max (height p) (height_all ts)) = height_below t ∙ ap (λ (us : Trees). suc (height_all us)) above in
    let part = le-max_left (height p) (height_all ts) in
    omega arith

pub second_lower : (t p q : Tree) → below t ≡ more p (more q none) → height q < height t
second_lower t p q above =
    let whole : height t ≡ suc (max (height p) (max (height q) 0)) = height_below t ∙ ap (λ (us : Trees). suc (height_all us)) above in
    omega arith
