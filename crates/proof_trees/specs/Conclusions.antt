-- What is so at each node of a proof tree, and conclusions with well-formed formulas alone, as those of a graph are.
use Rattle.std.specs.Prelude.{◌≡◌, true}
use Rattle.std.specs.List.{list_all}
use Rattle.fol.specs.Formed.{is_formed}
use Rattle.finite.specs.Finite as set
use Rattle.lk_rules.specs.declared.sequent.Sequent.{Sequent}
use Rattle.lk_rules.specs.declared.rule.Rule.{Rule}
use Rattle.proof_trees.specs.Trees.{Tree, node, Trees, none, more, concl}

-- each node's rule and conclusion are so
abbrev mutual
  pub EachNode : (Rule → Sequent → Type 0) → Tree → Type 0
  EachNode P (node r s ts) = P r s × EachNodeOf P ts

  pub EachNodeOf : (Rule → Sequent → Type 0) → Trees → Type 0
  EachNodeOf P none = Unit {0}
  EachNodeOf P (more t ts) = EachNode P t × EachNodeOf P ts

-- each formula of the sequent is well formed
pub record IsFormedSequent (s : Sequent) : Type 0 where
  pub left : list_all is_formed (set.listing s.left) ≡ true
  pub right : list_all is_formed (set.listing s.right) ≡ true

-- each formula of the tree's end sequent is well formed
abbrev pub HasFormedEnd : Tree → Type 0
HasFormedEnd t = IsFormedSequent (concl t)

-- the same of each tree
abbrev pub HaveFormedEnds : Trees → Type 0
HaveFormedEnds none = Unit {0}
HaveFormedEnds (more t ts) = HasFormedEnd t × HaveFormedEnds ts
