-- A premise's end sequent is within the conclusion with the premise's auxiliary formulas.
use Rattle.std.proofs.Common.{◌≡◌, ℕ, List, [], ◌∷◌, length, get_or, sym, subst, ◌∙◌, arith}
use Rattle.std.specs.Prelude.{IfSome}
use Rattle.lk_rules.specs.declared.sequent.Sequent.{Sequent}
use Rattle.lk_rules.specs.declared.rule.Rule.{Rule}
use Rattle.lk_rules.specs.Sequents.{IsSubsequent}
use Rattle.lk_rules.specs.Rules.{IsWithin, Row}
use Rattle.proof_trees.specs.Trees.{Tree, node, Trees, none, more, rule_of, concl, below, count, first_end, second_end, IsValid}
use Rattle.proof_trees.proofs.Verdicts.{row_of_verdict}
use Rattle.proof_graph.specs.References.{Reference, trees_of}
use Rattle.cut_laws.specs.Contraction.{with_aux}
use Rattle.arena_cells.specs.declared.key.RuleKey.{RuleKey}
use Rattle.arena_cells.specs.declared.key.Parts.{Parts}
use Rattle.arena_cells.specs.Items.{Item}
use Rattle.arena_cells.specs.Standing.{Extends, HasSequent, sequent_at, IsSequentAt}
use Rattle.arena_cells.specs.Meaning.{rule_at, trees_at, HasRuleParts}
use Rattle.arena_cells.proofs.Staying.{is_sequent, rule_stays, sequent_stays}
use Rattle.arena_graph.proofs.Trees.{root_tree}

root_row : (t : Tree) → IsValid t → Row (rule_of t) (concl t) (count (below t)) (first_end (below t)) (second_end (below t))
root_row (node r s ts) h = row_of_verdict r s (count ts) (first_end ts) (second_end ts) h.0.right

-- the end sequents above the last inference of a valid tree, whose rule and conclusion are in an arena
module _ (a : List Item) (r : RuleKey) (n : ℕ) (t : Tree) (ts : Trees) (valid : IsValid t) (rule : rule_at a r ≡ rule_of t) (end : HasSequent a n (concl t)) (trees : ts ≡ below t) where
  pub first_within : IfSome (first_end ts) (IsWithin (rule_at a r) (sequent_at a n) 0)
  first_within = subst (λ (P : Type 0). P) (λ i. IfSome (first_end (sym trees i)) (IsWithin (sym rule i) (sym (is_sequent a n (concl t) end) i) 0)) (root_row t valid).first_premise

  pub second_within : IfSome (second_end ts) (IsWithin (rule_at a r) (sequent_at a n) 1)
  second_within = subst (λ (P : Type 0). P) (λ i. IfSome (second_end (sym trees i)) (IsWithin (sym rule i) (sym (is_sequent a n (concl t) end) i) 1)) (root_row t valid).second_premise

-- they are so in a larger arena
pub within_stays : (a b : List Item) → Extends a b → (r : RuleKey) (n i : ℕ) (x : Sequent) → HasRuleParts a r → IsSequentAt a n → IsWithin (rule_at a r) (sequent_at a n) i x → IsWithin (rule_at b r) (sequent_at b n) i x
within_stays a b grown r n i x parts there h =
    subst (λ (P : Type 0). P) (λ k. IsWithin (sym (rule_stays a b grown r parts) k) (sym (sequent_stays a b grown n there) k) i x) h

within_with : (r : Rule) (s : Sequent) (i : ℕ) (x : Sequent) → IsWithin r s i x → IsSubsequent x (with_aux s r i)
unfolding with_aux
within_with r s i x h = h

pub within_shown : (a : List Item) (n : ℕ) (r : Rule) (s : Sequent) (i : ℕ) (x y : Sequent) → HasSequent a n (with_aux s r i) → y ≡ x → IsWithin r s i x → IsSubsequent y (sequent_at a n)
within_shown a n r s i x y made same h =
    subst (λ (P : Type 0). P) (λ k. IsSubsequent (sym same k) (sym (is_sequent a n (with_aux s r i) made) k)) (within_with r s i x h)

pub tree_over : (a : List Item) (r : RuleKey) (n : ℕ) (ps : Parts) (t : Tree) → rule_at a r ≡ rule_of t → HasSequent a n (concl t) → trees_at a ps ≡ below t → node (rule_at a r) (sequent_at a n) (trees_at a ps) ≡ t
tree_over a r n ps t rule end trees = (λ i. node (rule i) (is_sequent a n (concl t) end i) (trees i)) ∙ root_tree t

-- two premises
pub two_trees : (ps : List Reference) (p q : Reference) → length ps ≡ 2 → p ≡ get_or ps 0 p → q ≡ get_or ps 1 q → trees_of ps ≡ more p.tree (more q.tree none)
two_trees [] p q e is also = absurd (omega arith)
two_trees (x ∷ []) p q e is also = absurd (omega arith)
two_trees (x ∷ y ∷ []) p q e is also = λ i. more (sym is i).tree (more (sym also i).tree none)
two_trees (x ∷ y ∷ z ∷ ps) p q e is also = absurd (omega arith)
