-- The cuts above the last rule of a premise are valid, and so is that rule below them.
use Rattle.std.proofs.Common.{◌≡◌, ℕ, suc, true, refl, ap, ◌∙◌}
use Rattle.fol.specs.Syntax.{Formula}
use Rattle.lk_rules.specs.declared.sequent.Sequent.{Sequent}
use Rattle.lk_rules.specs.declared.sequent.Side.{Side}
use Rattle.lk_rules.specs.declared.rule.Rule.{Rule}
use Rattle.lk_rules.specs.Sequents.{adds_to, IsSubsequent}
use Rattle.lk_rules.specs.Rules.{aux, main_stands, IsWithin}
use Rattle.proof_trees.specs.Trees.{Tree, node, Trees, none, more, concl, rule_of, count, AllValid, IsValid}
use Rattle.cut_laws.specs.Contraction.{moved_rule, moved_trees, with_aux, opposite, cuts_on, above_on}
use Rattle.cut_laws.proofs.Sides.{extended_both, extended_with, wider_with}
use Rattle.cut_laws.proofs.Cuts.{row_of, AllWithin, Premises, premises_of, inference_valid, ValidCut, cut_valid}
use Rattle.cut_laws.proofs.Moved.{moved_shape, moved_stands, moved_eigen, moved_formed, moved_premises}

-- the cuts are valid, and follow the rule at each larger conclusion

aux_within : (s end : Sequent) (q : Rule) (i : ℕ) → IsSubsequent s end → IsWithin q end i (with_aux s q i)
unfolding with_aux
aux_within s end q i within = extended_both s end (aux q i) within

premise_with : (side : Side) (x e s : Sequent) (a : Formula) (q : Rule) (i : ℕ) → IsSubsequent e (adds_to s side a) → IsWithin q e i x → IsSubsequent x (adds_to (with_aux s q i) side a)
unfolding with_aux
premise_with side x e s a q i within h = extended_with side x e s a (aux q i) within h

other_with : (side : Side) (x s : Sequent) (a : Formula) (q : Rule) (i : ℕ) → IsSubsequent x (adds_to s side a) → IsSubsequent x (adds_to (with_aux s q i) side a)
unfolding with_aux
other_with side x s a q i h = wider_with side x s a (aux q i) h

module _ (side : Side) (s : Sequent) (a : Formula) (u : Tree) (q : Rule) where
  count_cuts : (i : ℕ) (ts : Trees) → count (cuts_on side s a q i ts u) ≡ count ts
  count_cuts i none = refl
  count_cuts i (more t ts) = ap suc (count_cuts (suc i) ts)

  cuts_within : (end : Sequent) → IsSubsequent s end → (i : ℕ) (ts : Trees) → AllWithin q end i (cuts_on side s a q i ts u)
  cuts_within end within i none = tt
  cuts_within end within i (more t ts) = (aux_within s end q i within, cuts_within end within (suc i) ts)

  cuts_valid : (t : Tree) → ValidCut side s a t u → (i : ℕ) (ts : Trees) → AllWithin q (concl t) i ts → AllValid ts → AllValid (cuts_on side s a q i ts u)
  cuts_valid t h i none w v = tt
  cuts_valid t h i (more p ts) w v = (
    cut_valid side (with_aux s q i) a p u (record {
      formed = h.formed;
      within = premise_with side (concl p) (concl t) s a q i h.within w.0;
      other = other_with (opposite side) (concl u) s a q i h.other;
      valid = v.0;
      other_valid = h.other_valid;
    }),
    cuts_valid t h (suc i) ts w.1 v.1,
  )

pub above_valid : (side : Side) (end s : Sequent) (a : Formula) (t u : Tree) → ValidCut side s a t u → IsSubsequent s end → main_stands (rule_of t) end ≡ true → IsValid (above_on side end s a t u)
above_valid side end s a (node q e ts) u h within stands =
    let row = row_of (node q e ts) h.valid in
    let moved : Rule = moved_rule end q in
    let us : Trees = moved_trees end q ts in
    let p : Premises moved e us = moved_premises q end e ts row h.valid.0.formed (premises_of q e ts row h.valid.1) in
    inference_valid moved end (cuts_on side s a moved 0 us u)
    (record {
      number = count_cuts side s a u moved 0 us ∙ p.number;
      within = cuts_within side s a u moved end within 0 us;
      valid = cuts_valid side s a u moved (node q e ts) h 0 us p.within p.valid;
    })
    (moved_shape end q ∙ row.shape) (moved_stands end end q ∙ stands) (moved_eigen end q) (moved_formed end q h.valid.0.formed)
