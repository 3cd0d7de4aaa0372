-- Trees with cuts on formulas of low grade alone.
use Rattle.std.specs.Prelude.{ℕ, ◌<◌}
use Rattle.free_variables.specs.Grade.{grade_of}
use Rattle.lk_rules.specs.declared.rule.Rule.{Rule}
use Rattle.lk_rules.specs.declared.rule.Rule.TheVariants.{Cut}
use Rattle.proof_trees.specs.Trees.{Tree, node, Trees, none, more}

-- the rule is no cut, or a cut on a formula of lower grade than g
abbrev pub IsBelow : ℕ → Rule → Type 0
IsBelow g (Cut a) = grade_of a < g
IsBelow g r = Unit {0}

-- each cut of the tree is on a formula of lower grade than g
abbrev mutual
  pub HasCutsBelow : ℕ → Tree → Type 0
  HasCutsBelow g (node r s ts) = IsBelow g r × HaveCutsBelow g ts

  pub HaveCutsBelow : ℕ → Trees → Type 0
  HaveCutsBelow g none = Unit {0}
  HaveCutsBelow g (more t ts) = HasCutsBelow g t × HaveCutsBelow g ts
