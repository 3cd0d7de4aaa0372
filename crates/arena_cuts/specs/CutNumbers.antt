-- What the numbers of a cut stand for.
use Rattle.std.specs.Prelude.{List}
use Rattle.lk_rules.specs.declared.sequent.Sequent.{Sequent}
use Rattle.lk_rules.specs.declared.sequent.Side.{Side}
use Rattle.proof_trees.specs.Trees.{Tree}
use Rattle.cut_laws.specs.Contraction.{cut, opposite, premise_on, above_on}
use Rattle.arena_cells.specs.Items.{Item}
use Rattle.arena_cells.specs.Standing.{sequent_at, formula_at, tree_at, IsSequentAt, IsFormulaAt, IsTreeAt}
use Rattle.arena_cuts.specs.declared.cut.Cut.{Cut}

-- the parts of the cut stand at its numbers
pub record IsCutAt (a : List Item) (c : Cut) : Type 0 where
  pub end : IsSequentAt a c.end
  pub formula : IsFormulaAt a c.formula
  pub left : IsTreeAt a c.left
  pub right : IsTreeAt a c.right

abbrev pub cut_at : List Item → Cut → Tree
cut_at a c = cut (sequent_at a c.end) (formula_at a c.formula) (tree_at a c.left) (tree_at a c.right)

-- the last rule of the premise with the cut formula on that side, at the conclusion `end`, above it the cuts
abbrev pub above_at : List Item → Sequent → Cut → Side → Tree
above_at a end c side =
    above_on side end (sequent_at a c.end) (formula_at a c.formula) (premise_on side (tree_at a c.left) (tree_at a c.right)) (premise_on (opposite side) (tree_at a c.left) (tree_at a c.right))
