-- The elimination in a proof, by its last rule.
use Rattle.std.proofs.Common.{◌≡◌, ℕ, false, List, Some, refl, sym, ap, ◌∙◌}
use Rattle.fol.specs.Syntax.{Formula}
use Rattle.lk_rules.specs.declared.sequent.Sequent.{Sequent}
use Rattle.lk_rules.specs.declared.rule.Rule.TheVariants as rule
use Rattle.proof_trees.specs.Trees.{Tree, node, Trees, none, more, concl, rule_of, below, is_cut}
use Rattle.cut_laws.specs.Contraction.{cut}
use Rattle.cut_laws.specs.Elimination.{elimination, Reaches}
use Rattle.cut_laws.specs.Budgets.{elimination_all, rooted}
use Rattle.arena_cells.specs.declared.key.RuleKey.{RuleKey}
use Rattle.arena_cells.specs.declared.key.RuleKey.TheVariants.{Cut}
use Rattle.arena_cells.specs.Items.{Item}
use Rattle.arena_cells.specs.Meaning.{rule_at}

-- a tree by its parts
pub by_parts_of : (t : Tree) → t ≡ node (rule_of t) (concl t) (below t)
by_parts_of (node q s ts) = refl

pub cut_of : (t : Tree) (s : Sequent) (a : Formula) (l r : Tree) → rule_of t ≡ rule.Cut a → concl t ≡ s → below t ≡ more l (more r none) → t ≡ cut s a l r
cut_of (node q e ts) s a l r rule end above = λ i. node (rule i) (end i) (above i)

pub not_cut : (a : List Item) (r : RuleKey) → ((f : ℕ) → r ≡ Cut f → ⊥) → is_cut (rule_at a r) ≡ false
not_cut a (Cut f) h = absurd (h f refl)
not_cut a r h = refl

-- a last rule that is no cut
module _ (t : Tree) (n : ℕ) (big : elimination (node (rule_of t) (concl t) (below t)) n ≡ rooted (rule_of t) (concl t) (elimination_all (below t) n)) where
  whole : elimination t n ≡ rooted (rule_of t) (concl t) (elimination_all (below t) n)
  whole = ap (λ (u : Tree). elimination u n) (by_parts_of t) ∙ big

  pub other_some : (ts us : Trees) (k : ℕ) → below t ≡ ts → elimination_all ts n ≡ Some (us, k) → elimination t n ≡ Some (node (rule_of t) (concl t) us, k)
  other_some ts us k above h = whole ∙ ap (rooted (rule_of t) (concl t)) (ap (λ (us : Trees). elimination_all us n) above ∙ h)

  -- no replacement leaves the tree as it is
  pub untouched : (ts us : Trees) (k : ℕ) → below t ≡ ts → elimination_all ts n ≡ Some (us, k) → k ≡ 0 → ((u : Tree) → elimination t n ≡ Some (u, 0) → Reaches t 0 u) → elimination t n ≡ Some (t, k)
  untouched ts us k above h none_made reaches =
      let found : elimination t n ≡ Some (node (rule_of t) (concl t) us, 0) = other_some ts us k above h ∙ ap (λ (m : ℕ). Some (node (rule_of t) (concl t) us, m)) none_made in
      found ∙ λ i. Some (sym (reaches (node (rule_of t) (concl t) us) found).is i, sym none_made i)
