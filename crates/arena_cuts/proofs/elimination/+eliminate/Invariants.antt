-- The work within the budget falls.
use Rattle.std.proofs.Common.{◌+◌, ◌*◌, ◌-◌}
use Rattle.cut_laws.specs.Contraction.{con}
use Rattle.cut_laws.specs.Budgets.{work, work_all}
use Rattle.arena_cells.specs.Standing.{sequent_at, formula_at, tree_at}
use Rattle.arena_cells.specs.Meaning.{trees_at}
use Rattle.arena_cuts.specs.CutNumbers.{cut_at}
use Rattle.arena_cuts.proofs.PairWork.{pair_work}
use Rattle.arena_cuts.proofs.elimination.+eliminate.Given as goal

abbrev pub decreases-eliminate_in : goal.decreases-eliminate_in
decreases-eliminate_in g l = 8 * work l.budget (tree_at l.arena.now l.proof) + 2

abbrev pub decreases-eliminate_root : goal.decreases-eliminate_root
decreases-eliminate_root g l = 8 * work l.budget (tree_at l.arena.now l.proof) + 1

abbrev pub decreases-eliminate_cut : goal.decreases-eliminate_cut
decreases-eliminate_cut g l = 8 * work l.budget (cut_at l.arena.now l.cut)

abbrev pub decreases-eliminate_lowest : goal.decreases-eliminate_lowest
decreases-eliminate_lowest g l =
    8 * work (l.budget - 1) (con (sequent_at l.arena.now l.cut.end) (formula_at l.arena.now l.cut.formula) (tree_at l.arena.now l.cut.left) (tree_at l.arena.now l.cut.right)) + 3

abbrev pub decreases-eliminate_other : goal.decreases-eliminate_other
decreases-eliminate_other g l = 8 * work l.budget (tree_at l.arena.now l.proof)

abbrev pub decreases-eliminate_all : goal.decreases-eliminate_all
decreases-eliminate_all g l = 8 * work_all l.budget (trees_at l.arena.now l.proofs) + 4

abbrev pub decreases-eliminate_both : goal.decreases-eliminate_both
decreases-eliminate_both g l = 8 * pair_work l.budget (tree_at l.arena.now l.left) (tree_at l.arena.now l.right) + 3
