-- Trees in which no eigenvariable is named, as those of refutations are.
--     IsRigid      a tree of such inferences
use Rattle.lk_rules.specs.declared.rule.Rule.{Rule}
use Rattle.lk_rules.specs.declared.rule.Rule.TheVariants.{AllR, ExL}
use Rattle.proof_trees.specs.Trees.{Tree, node, Trees, none, more}

-- the rule has no eigenvariable
abbrev pub IsRigidRule : Rule → Type 0
IsRigidRule (AllR a y) = ⊥
IsRigidRule (ExL a y) = ⊥
IsRigidRule r = Unit {0}

-- no inference of the tree has one
abbrev mutual
  pub IsRigid : Tree → Type 0
  IsRigid (node r s ts) = IsRigidRule r × AreRigid ts

  pub AreRigid : Trees → Type 0
  AreRigid none = Unit {0}
  AreRigid (more t ts) = IsRigid t × AreRigid ts
