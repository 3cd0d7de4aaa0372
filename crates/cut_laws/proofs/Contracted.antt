-- The contraction of a cut is valid in each case, and has the conclusion of the cut.
use Rattle.std.proofs.Common.{◌≡◌, true, false, ◌&&◌, not as negated, Option, Some, None, refl}
use Rattle.std.proofs.lemmas.Bool.{not-true}
use Rattle.fol.specs.Syntax.{Formula, atom, not, and, or, imp, all, ex}
use Rattle.substitution.specs.Unfolding.{unf}
use Rattle.lk_rules.specs.declared.sequent.Sequent.{Sequent}
use Rattle.lk_rules.specs.declared.sequent.Side.{Side}
use Rattle.lk_rules.specs.declared.sequent.Side.TheVariants.{Left, Right}
use Rattle.lk_rules.specs.declared.rule.Rule.TheVariants.{AllL, AllR, ExL, ExR, DefL, DefR, Weak}
use Rattle.lk_rules.specs.Sequents.{adds_to, is_subsequent}
use Rattle.lk_rules.proofs.Subsequents.{and_left, and_right, subsequent_of}
use Rattle.proof_trees.specs.Trees.{Tree, node, none, more, concl, rule_of, below, IsValid}
use Rattle.cut_laws.specs.declared.case.Case.{Case}
use Rattle.cut_laws.specs.declared.case.Case.TheVariants.{Weaken, Leaf, Pass, Split, Reduce}
use Rattle.cut_laws.specs.Contraction.{introduces, has_above, is_leaf, cut, premise_on, cut_on, above_on, case_of, cut_unfolded, by_parts, by_case, con}
use Rattle.cut_laws.proofs.Sides.{itself, within_added}
use Rattle.cut_laws.proofs.Cuts.{ValidCut, valid_cuts, cut_valid, weak_valid, leaf_valid, main_larger, main_without, main_in_end}
use Rattle.cut_laws.proofs.Above.{above_valid}
use Rattle.cut_laws.proofs.Cases.{Meets, Known, known_case, introductions}
use Rattle.cut_laws.proofs.Parts.{premises_at, by_parts_valid}

-- the conclusion

end_unfolded : (s : Sequent) (a : Formula) (l r : Tree) (o : Option Formula) (p p' : Tree) → concl (cut_unfolded s a l r o p p') ≡ s
end_unfolded s a l r None p p' = refl
end_unfolded s a l r (Some b) p p' = refl

end_by_parts : (s : Sequent) (a : Formula) (l r : Tree) → concl (by_parts s a l r) ≡ s
end_by_parts s (not b) (node q e (more p none)) (node q' e' (more p' none)) = refl
end_by_parts s (and b c) (node q e (more p (more p' none))) (node q' e' (more p'' none)) = refl
end_by_parts s (or b c) (node q e (more p none)) (node q' e' (more p' (more p'' none))) = refl
end_by_parts s (imp b c) (node q e (more p none)) (node q' e' (more p' (more p'' none))) = refl
end_by_parts s (all b) (node (AllR f y) e (more p none)) (node (AllL g t) e' (more p' none)) = refl
end_by_parts s (ex b) (node (ExR f t) e (more p none)) (node (ExL g y) e' (more p' none)) = refl
end_by_parts s (atom b ts) (node (DefR f) e (more p none)) (node (DefL g) e' (more p' none)) =
    end_unfolded s (atom b ts) (node (DefR f) e (more p none)) (node (DefL g) e' (more p' none)) (unf (atom b ts)) p p'
end_by_parts s a l r = refl

end_by_case : (c : Case) (s : Sequent) (a : Formula) (l r : Tree) → concl (by_case c s a l r) ≡ s
end_by_case Reduce s a l r = end_by_parts s a l r
end_by_case c s a l r = refl

pub end_con : (s : Sequent) (a : Formula) (l r : Tree) → concl (con s a l r) ≡ s
unfolding con
end_con s a l r = end_by_case (case_of s a l r) s a l r

-- validity

module _ (side : Side) (s : Sequent) (a : Formula) (t u : Tree) (h : ValidCut side s a t u) where
  weaken : is_subsequent (concl t) s ≡ true → IsValid (node Weak s (more t none))
  weaken e = weak_valid s t (subsequent_of (concl t) s e) h.valid

  leaf : (is_leaf t && negated (introduces side a t)) ≡ true → IsValid (node (rule_of t) s none)
  leaf e = leaf_valid side s a t h.within h.valid (and_left _ _ e) (not-true (introduces side a t) (and_right (is_leaf t) _ e))

  pass : introduces side a t ≡ false → IsValid (above_on side s s a t u)
  pass e = above_valid side s s a t u h (itself s) (main_without side (rule_of t) (concl t) s a h.within e (main_in_end t h.valid))

  split : IsValid (cut_on side s a (above_on side (adds_to s side a) s a t u) u)
  split =
      let end : Sequent = adds_to s side a in
      cut_valid side s a (above_on side end s a t u) u (record {
        formed = h.formed;
        within = itself end;
        other = h.other;
        valid = above_valid side end s a t u h (within_added side s a) (main_larger (rule_of t) (concl t) end h.within (main_in_end t h.valid));
        other_valid = h.other_valid;
      })

reduce : (s : Sequent) (a : Formula) (l r : Tree) → IsValid (cut s a l r) → Meets s a l r → ((side : Side) → has_above side a (below (premise_on side l r)) ≡ false) → IsValid (by_parts s a l r)
reduce s a (node q e ts) (node q' e' ts') valid meets none_above =
    let l : Tree = node q e ts in
    let r : Tree = node q' e' ts' in
    let h : ValidCut Right s a l r = valid_cuts s a l r valid Right in
    let intro = introductions s a l r valid meets in
    by_parts_valid s a q q' (intro Right) (intro Left) e e' ts ts' h (premises_at Right s a l h.within h.valid (none_above Right)) (premises_at Left s a r h.other h.other_valid (none_above Left))
    (none_above Right) (none_above Left)

by_known : (s : Sequent) (a : Formula) (l r : Tree) → IsValid (cut s a l r) → (c : Case) → Known s a l r c → IsValid (by_case c s a l r)
by_known s a l r valid (Weaken side) k = weaken side s a _ _ (valid_cuts s a l r valid side) k
by_known s a l r valid (Leaf side) k = leaf side s a _ _ (valid_cuts s a l r valid side) k
by_known s a l r valid (Pass side) k = pass side s a _ _ (valid_cuts s a l r valid side) k
by_known s a l r valid (Split side) k = split side s a _ _ (valid_cuts s a l r valid side)
by_known s a l r valid Reduce k = reduce s a l r valid k.0 k.1

pub con_valid : (s : Sequent) (a : Formula) (l r : Tree) → IsValid (cut s a l r) → IsValid (con s a l r)
unfolding con
con_valid s a l r valid = by_known s a l r valid (case_of s a l r) (known_case s a l r)
