-- Cuts on the parts of a formula are on formulas of lower grade.
use Rattle.std.proofs.Common.{◌≡◌, ℕ, ◌+◌, ◌<◌, true, not as negated, sym, subst, arith}
use Rattle.std.specs.FinMap as fin
use Rattle.fol.specs.Syntax.{Formula, atom}
use Rattle.free_variables.specs.Grade.{grade_of}
use Rattle.substitution.specs.Maps.{Map, only}
use Rattle.substitution.proofs.ShapeLaws.{grade-image}
use Rattle.lk_rules.specs.declared.sequent.Sequent.{Sequent}
use Rattle.lk_rules.specs.declared.sequent.Side.TheVariants.{Left, Right}
use Rattle.lk_rules.specs.declared.rule.Rule.{Rule}
use Rattle.lk_rules.specs.declared.rule.Rule.TheVariants.{Cut}
use Rattle.lk_rules.specs.Sequents.{image_sequent}
use Rattle.lk_rules.specs.Rules.{needs}
use Rattle.lk_rules.proofs.Subsequents.{and_left, and_right}
use Rattle.proof_trees.specs.Trees.{Tree, node, Trees, none, more, count, IsValid, is_cut, cut_free, cut_free_all, IsCutFree}
use Rattle.proof_trees.specs.Substitution.{image_rule, premise_map, sub, sub_all}
use Rattle.cut_laws.specs.declared.case.Case.TheVariants.{Reduce}
use Rattle.cut_laws.specs.Contraction.{cut, cut_unfolded, case_of, by_parts, by_case, con}
use Rattle.cut_laws.specs.LowerCuts.{IsBelow, HasCutsBelow, HaveCutsBelow}
use Rattle.cut_laws.proofs.Cuts.{row_of}
use Rattle.cut_laws.proofs.Introduced.{IsIntroduction, right_top, right_not, right_and, right_or, right_imp, right_all, right_ex, right_def, left_not, left_and, left_or, left_imp, left_all, left_ex, left_def, instance_lower, unfolding_lower}
use Rattle.cut_laws.proofs.Cases.{Meets, Known, known_case, introductions}

-- substitution keeps the grades of the cuts

below-image : (g : ℕ) (m : Map) (r : Rule) (e : Sequent) → IsBelow g r → IsBelow g (image_rule m r e)
below-image g m (Cut a) e h = subst (λ n. n < g) (sym (grade-image (fin.get m) a)) h
below-image g m r e h = tt

mutual
  below-sub : (g : ℕ) (t : Tree) (m : Map) → HasCutsBelow g t → HasCutsBelow g (sub t m)
  below-sub g (node r s ts) m h =
      (below-image g m r (image_sequent (fin.get m) s) h.0, below-sub_all g ts (premise_map m r (image_sequent (fin.get m) s)) h.1)

  below-sub_all : (g : ℕ) (ts : Trees) (m : Map) → HaveCutsBelow g ts → HaveCutsBelow g (sub_all ts m)
  below-sub_all g none m h = tt
  below-sub_all g (more t ts) m h = (below-sub g t m h.0, below-sub_all g ts m h.1)

-- a tree without a cut

below_no_cut : (g : ℕ) (r : Rule) → negated (is_cut r) ≡ true → IsBelow g r
below_no_cut g (Cut a) h = cc
below_no_cut g r h = tt

mutual
  pub below_cut_free : (g : ℕ) (t : Tree) → IsCutFree t → HasCutsBelow g t
  below_cut_free g (node r s ts) h = (below_no_cut g r (and_left _ _ h), all_below_cut_free g ts (and_right (negated (is_cut r)) _ h))

  all_below_cut_free : (g : ℕ) (ts : Trees) → cut_free_all ts ≡ true → HaveCutsBelow g ts
  all_below_cut_free g none h = tt
  all_below_cut_free g (more t ts) h = (below_cut_free g t (and_left _ _ h), all_below_cut_free g ts (and_right (cut_free t) _ h))

-- the parts

-- both rules introduce the formula, and they have as many premises as they need
parts_below : (s : Sequent) (a : Formula) (q q' : Rule) → IsIntroduction Right q a → IsIntroduction Left q' a → (e e' : Sequent) (ts ts' : Trees)
    → count ts ≡ needs q → count ts' ≡ needs q' → HaveCutsBelow (grade_of a) ts → HaveCutsBelow (grade_of a) ts' → HasCutsBelow (grade_of a) (by_parts s a (node q e ts) (node q' e' ts'))
parts_below s a q q' right_top i' e e' ts ts' n n' h h' = elim i' [ ]
parts_below s a q q' (right_not b) (left_not b') e e' (more p none) (more p' none) n n' h h' = (omega arith, (h'.0, (h.0, tt)))
parts_below s a q q' (right_and b c) (left_and b' c') e e' (more p (more p' none)) (more p'' none) n n' h h' = (omega arith, (h.0, ((omega arith, (h.1.0, (h'.0, tt))), tt)))
parts_below s a q q' (right_or b c) (left_or b' c') e e' (more p none) (more p' (more p'' none)) n n' h h' = (omega arith, ((omega arith, (h.0, (h'.0, tt))), (h'.1.0, tt)))
parts_below s a q q' (right_imp b c) (left_imp b' c') e e' (more p none) (more p' (more p'' none)) n n' h h' = (omega arith, ((omega arith, (h'.0, (h.0, tt))), (h'.1.0, tt)))
parts_below s a q q' (right_all b y) (left_all b' t) e e' (more p none) (more p' none) n n' h h' = (instance_lower b t, (below-sub (grade_of b + 1) p (only y t) h.0, (h'.0, tt)))
parts_below s a q q' (right_ex b t) (left_ex b' y) e e' (more p none) (more p' none) n n' h h' = (instance_lower b t, (h.0, (below-sub (grade_of b + 1) p' (only y t) h'.0, tt)))
parts_below s a q q' (right_def o us b u) (left_def o' us' b' u') e e' (more p none) (more p' none) n n' h h' =
    subst (λ x. HasCutsBelow (grade_of (atom o us)) (cut_unfolded s (atom o us) (node q e (more p none)) (node q' e' (more p' none)) x p p')) (sym u)
    (unfolding_lower (atom o us) b u, (h.0, (h'.0, tt)))
parts_below s a q q' i i' e e' ts ts' n n' h h' = cc

by_parts_below : (s : Sequent) (a : Formula) (l r : Tree) → IsValid (cut s a l r) → Meets s a l r → HasCutsBelow (grade_of a) l → HasCutsBelow (grade_of a) r → HasCutsBelow (grade_of a) (by_parts s a l r)
by_parts_below s a (node q e ts) (node q' e' ts') h meets x y =
    let l : Tree = node q e ts in
    let r : Tree = node q' e' ts' in
    let intro = introductions s a l r h meets in
    parts_below s a q q' (intro Right) (intro Left) e e' ts ts' (row_of l h.1.0).premises (row_of r h.1.1.0).premises x.1 y.1

pub cut_free_parts_below : (s : Sequent) (a : Formula) (l r : Tree) → IsValid (cut s a l r) → Meets s a l r → IsCutFree l → IsCutFree r → HasCutsBelow (grade_of a) (by_parts s a l r)
cut_free_parts_below s a l r valid meets free free' = by_parts_below s a l r valid meets (below_cut_free (grade_of a) l free) (below_cut_free (grade_of a) r free')

pub con_below : (s : Sequent) (a : Formula) (l r : Tree) → IsValid (cut s a l r) → case_of s a l r ≡ Reduce → HasCutsBelow (grade_of a) l → HasCutsBelow (grade_of a) r → HasCutsBelow (grade_of a) (con s a l r)
unfolding con
con_below s a l r valid e x y =
    let known : Known s a l r Reduce = subst (Known s a l r) e (known_case s a l r) in
    subst (λ c. HasCutsBelow (grade_of a) (by_case c s a l r)) (sym e) (by_parts_below s a l r valid known.0 x y)
