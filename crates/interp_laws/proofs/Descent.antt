-- What interpolation asks for holds of the premises and their parts too.
use Rattle.std.proofs.Common.{◌≡◌, ℕ, true, false, ◌&&◌, ◌∙◌}
use Rattle.lk_rules.specs.declared.sequent.Sequent.{Sequent}
use Rattle.lk_rules.specs.declared.sequent.Side.{Side}
use Rattle.lk_rules.specs.declared.sequent.Side.TheVariants.{Left, Right}
use Rattle.lk_rules.specs.declared.rule.Rule.{Rule}
use Rattle.lk_rules.specs.declared.rule.Rule.TheVariants.{Weak}
use Rattle.lk_rules.specs.RuleOrder.{variable_of}
use Rattle.lk_rules.specs.Sequents.{union_sequent, IsSubsequent}
use Rattle.lk_rules.specs.Rules.{IsFormedRule, is_unfolding_rule, main_stands, IsWithin, Row}
use Rattle.lk_rules.proofs.Rows.{main_of}
use Rattle.lk_rules.proofs.Subsequents.{and_left, and_right}
use Rattle.proof_trees.specs.Trees.{Tree, node, Trees, none, more, concl, count, first_end, second_end, IsInference, IsValid, is_cut, cut_free, cut_free_all}
use Rattle.proof_trees.specs.Occurrence.{has_body_in_sequent}
use Rattle.proof_trees.proofs.Premises.{body_without_cut, unfolded_in_conclusion}
use Rattle.proof_trees.proofs.Verdicts.{row_of_verdict}
use Rattle.proof_trees.proofs.WithoutBodies.{stays_false}
use Rattle.cut_laws.specs.Contraction.{moved_rule}
use Rattle.cut_laws.proofs.Cuts.{Premises, main_in_end}
use Rattle.cut_laws.proofs.Moved.{moved_stands, moved_formed}
use Rattle.interp_laws.specs.Interpolation.{moved_tree, first_above, second_above}
use Rattle.interp_laws.specs.Parts.{IsFormedSequent, HasParts}
use Rattle.interp_laws.proofs.Above.{first_parts, second_parts}
use Rattle.interp_laws.proofs.Members.{through}
use Rattle.interp_laws.proofs.Moved.{moved_free, moved_cut, moved_premise}
use Rattle.interp_laws.proofs.RuleParts.{extended_formed}

pub row_at : (r : Rule) (s : Sequent) (ts : Trees) → IsInference r s ts → Row r s (count ts) (first_end ts) (second_end ts)
row_at r s ts h = row_of_verdict r s (count ts) (first_end ts) (second_end ts) h.right

-- the premises have no cuts
pub premises_free : (r : Rule) (s : Sequent) (ts : Trees) → cut_free (node r s ts) ≡ true → cut_free_all ts ≡ true
premises_free r s ts = and_right _ (cut_free_all ts)

-- the parts of a premise are well formed, and have together all formulas of its conclusion

first_formed : (m : Side) (r : Rule) (i : ℕ) (one : Sequent) → IsFormedRule r → IsFormedSequent one → IsFormedSequent (first_above m r i one)
first_formed Right r i one formed h = extended_formed r i one formed h
first_formed Left r i one formed h = h

second_formed : (m : Side) (r : Rule) (i : ℕ) (two : Sequent) → IsFormedRule r → IsFormedSequent two → IsFormedSequent (second_above m r i two)
second_formed Right r i two formed h = h
second_formed Left r i two formed h = extended_formed r i two formed h

above_together : (m : Side) (r : Rule) (i : ℕ) (s one two x : Sequent) → IsSubsequent s (union_sequent one two) → IsWithin r s i x → IsSubsequent x (union_sequent (first_above m r i one) (second_above m r i two))
above_together Right = first_parts
above_together Left = second_parts

module _ (m : Side) (r : Rule) (s one two : Sequent) where
  above_has : (q : Rule) (i : ℕ) (p : Tree) (ts : Trees) → HasParts (node r s ts) one two → IsFormedRule q → IsValid p → cut_free p ≡ true → IsWithin q s i (concl p)
      → HasParts p (first_above m q i one) (second_above m q i two)
  above_has q i p ts h formed valid free within = record {
    valid = valid;
    without_cuts = free;
    first_formed = first_formed m q i one formed h.first_formed;
    second_formed = second_formed m q i two formed h.second_formed;
    together = above_together m q i s one two (concl p) h.together within;
  }

  -- of a rule with one premise, whose eigenvariable is renamed
  pub one_has : (p : Tree) → HasParts (node r s (more p none)) one two
      → HasParts (moved_tree (union_sequent one two) (variable_of r) p) (first_above m (moved_rule (union_sequent one two) r) 0 one) (second_above m (moved_rule (union_sequent one two) r) 0 two)
  one_has p h =
      let e : Sequent = union_sequent one two in
      let moved : Premises (moved_rule e r) s (more (moved_tree e (variable_of r) p) none) = moved_premise e s r p h.valid.0 h.valid.1.0 in
      above_has (moved_rule e r) 0 (moved_tree e (variable_of r) p) (more p none) h (moved_formed e r h.valid.0.formed) moved.valid.0
      (moved_free e (variable_of r) p ∙ and_left (cut_free p) true (premises_free r s (more p none) h.without_cuts))
      moved.within.0

  -- of one with two premises
  pub first_has : (p q : Tree) → HasParts (node r s (more p (more q none))) one two → HasParts p (first_above m r 0 one) (second_above m r 0 two)
  first_has p q h =
      let ts : Trees = more p (more q none) in
      above_has r 0 p ts h h.valid.0.formed h.valid.1.0 (and_left (cut_free p) (cut_free q && true) (premises_free r s ts h.without_cuts)) (row_at r s ts h.valid.0).first_premise

  pub second_has : (p q : Tree) → HasParts (node r s (more p (more q none))) one two → HasParts q (first_above m r 1 one) (second_above m r 1 two)
  second_has p q h =
      let ts : Trees = more p (more q none) in
      above_has r 1 q ts h h.valid.0.formed h.valid.1.1.0 (and_left (cut_free q) true (and_right (cut_free p) (cut_free q && true) (premises_free r s ts h.without_cuts))) (row_at r s ts h.valid.0).second_premise

-- of weakening, with the same parts
pub weak_has : (s one two : Sequent) (p : Tree) → HasParts (node Weak s (more p none)) one two → HasParts p one two
weak_has s one two p h = record {
  valid = h.valid.1.0;
  without_cuts = and_left (cut_free p) true h.without_cuts;
  first_formed = h.first_formed;
  second_formed = h.second_formed;
  together = through (concl p) s (union_sequent one two) (row_at Weak s (more p none) h.valid.0).first_premise h.together;
}

-- where no predicate symbol of the conclusion has a body, none of a premise's has one, and the rule unfolds no atom

no_body_above : (r : Rule) (i : ℕ) (s x : Sequent) → is_cut r ≡ false → main_stands r s ≡ true → IsWithin r s i x → has_body_in_sequent s ≡ false → has_body_in_sequent x ≡ false
no_body_above r i s x uncut stands within = stays_false (has_body_in_sequent x) (has_body_in_sequent s) (body_without_cut r s i x uncut (main_of r s stands) within)

module _ (r : Rule) (s : Sequent) (uncut : is_cut r ≡ false) where
  pub no_unfolding_at : (ts : Trees) → IsInference r s ts → has_body_in_sequent s ≡ false → is_unfolding_rule r ≡ false
  no_unfolding_at ts h = stays_false (is_unfolding_rule r) (has_body_in_sequent s) (unfolded_in_conclusion r s (count ts) (first_end ts) (second_end ts) (row_at r s ts h) uncut)

  -- a renamed premise
  pub no_body_moved : (e : Sequent) (p : Tree) → IsValid (node r s (more p none)) → has_body_in_sequent s ≡ false → has_body_in_sequent (concl (moved_tree e (variable_of r) p)) ≡ false
  no_body_moved e p valid =
      no_body_above (moved_rule e r) 0 s (concl (moved_tree e (variable_of r) p)) (moved_cut e r ∙ uncut) (moved_stands e s r ∙ main_in_end (node r s (more p none)) valid)
      (moved_premise e s r p valid.0 valid.1.0).within.0

  -- the first premise, and the second
  pub no_body_first : (p : Tree) (ts : Trees) → IsValid (node r s (more p ts)) → has_body_in_sequent s ≡ false → has_body_in_sequent (concl p) ≡ false
  no_body_first p ts valid = no_body_above r 0 s (concl p) uncut (main_in_end (node r s (more p ts)) valid) (row_at r s (more p ts) valid.0).first_premise

  pub no_body_second : (p q : Tree) (ts : Trees) → IsValid (node r s (more p (more q ts))) → has_body_in_sequent s ≡ false → has_body_in_sequent (concl q) ≡ false
  no_body_second p q ts valid = no_body_above r 1 s (concl q) uncut (main_in_end (node r s (more p (more q ts))) valid) (row_at r s (more p (more q ts)) valid.0).second_premise
