-- How many nodes a tree has, and how many of them are by cut and by quantifier rules, as its root keeps these numbers.
use Rattle.std.specs.Prelude.{◌≡◌, ℕ, ◌-◌, ◌^◌, min, Bool, true}
use Rattle.lk_rules.specs.declared.rule.Rule.{Rule}
use Rattle.proof_trees.specs.Trees.{Tree, Trees, is_cut, is_quantifier_rule, count_rules, count_rules_all}
use Rattle.proof_graph.specs.declared.counts.Counts.{Counts}

-- how many nodes of a tree are by rules that pass a test, cut off at the largest u64
abbrev pub capped : (Rule → Bool) → Tree → ℕ
capped p t = min (count_rules p t) (2 ^ 64 - 1)

-- the same of several trees together
abbrev pub capped_all : (Rule → Bool) → Trees → ℕ
capped_all p ts = min (count_rules_all p ts) (2 ^ 64 - 1)

-- the numbers are those of the tree
pub record AreCountsOf (c : Counts) (t : Tree) : Type 0 where
  pub nodes : c.nodes ≡ capped (λ r. true) t
  pub cuts : c.cuts ≡ capped is_cut t
  pub quantifiers : c.quantifiers ≡ capped is_quantifier_rule t

-- the numbers are those of the trees together
pub record AreCountsOfAll (c : Counts) (ts : Trees) : Type 0 where
  pub nodes : c.nodes ≡ capped_all (λ r. true) ts
  pub cuts : c.cuts ≡ capped_all is_cut ts
  pub quantifiers : c.quantifiers ≡ capped_all is_quantifier_rule ts
