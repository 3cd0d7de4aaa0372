-- Proofs and the parts of their conclusions, as interpolation asks for them.
use Rattle.std.specs.List.{All}
use Rattle.fol.specs.Formed.{IsFormed}
use Rattle.finite.specs.Finite as set
use Rattle.lk_rules.specs.declared.sequent.Sequent.{Sequent}
use Rattle.lk_rules.specs.Sequents.{union_sequent, IsSubsequent}
use Rattle.proof_trees.specs.Trees.{Tree, concl, IsValid, IsCutFree}

-- each formula of the sequent is well formed
pub record IsFormedSequent (s : Sequent) : Type 0 where
  pub left : All IsFormed (set.listing s.left)
  pub right : All IsFormed (set.listing s.right)

-- t is a valid proof without cuts, and the two well-formed sequents have together all formulas of its conclusion. They may have formulas
-- in common, and others that the conclusion doesn't have
pub record HasParts (t : Tree) (one two : Sequent) : Type 0 where
  pub valid : IsValid t
  pub without_cuts : IsCutFree t
  pub first_formed : IsFormedSequent one
  pub second_formed : IsFormedSequent two
  pub together : IsSubsequent (concl t) (union_sequent one two)
