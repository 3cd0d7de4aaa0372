-- How high a proof tree is, and when two trees have the same inferences but for what the rules name.
use Rattle.std.specs.Prelude.{ℕ, suc, max, Bool, true, false, ◌&&◌, eqb}
use Rattle.lk_rules.specs.RuleOrder.{rule_kind}
use Rattle.proof_trees.specs.Trees.{Tree, node, Trees, none, more}

-- how many nodes stand on the longest branch
abbrev mutual
  pub height : Tree → ℕ
  height (node r s ts) = suc (height_all ts)

  pub height_all : Trees → ℕ
  height_all none = 0
  height_all (more t ts) = max (height t) (height_all ts)

-- whether two trees have rules of the same kind, and premises that are alike, as many
abbrev mutual
  pub is_alike : Tree → Tree → Bool
  is_alike (node r s ts) (node q e us) = eqb (rule_kind r) (rule_kind q) && are_alike ts us

  pub are_alike : Trees → Trees → Bool
  are_alike none none = true
  are_alike none (more u us) = false
  are_alike (more t ts) none = false
  are_alike (more t ts) (more u us) = is_alike t u && are_alike ts us
