-- Cuts whose premises have no cut, and what takes their place.
use Rattle.std.specs.Prelude.{◌≡◌}
use Rattle.fol.specs.Syntax.{Formula}
use Rattle.lk_rules.specs.declared.sequent.Sequent.{Sequent}
use Rattle.proof_trees.specs.Trees.{Tree, rule_of, concl, below, IsCutFree}
use Rattle.cut_laws.specs.Contraction.{cut}
use Rattle.cut_laws.specs.Elimination.{contracted_root}

-- the last inference is a cut, and there is no other
pub record IsLowestCut (t : Tree) : Type 0 where
  pub end : Sequent
  pub formula : Formula
  pub left : Tree
  pub right : Tree
  pub is : t ≡ cut end formula left right
  pub left_cut_free : IsCutFree left
  pub right_cut_free : IsCutFree right

-- the tree of a cut, where the cut has given way to its contraction
abbrev pub contracted : Tree → Tree
contracted t = contracted_root (rule_of t) (concl t) (below t)
