-- The work in the whole elimination falls.
use Rattle.std.proofs.Common.{◌+◌, ◌*◌, max}
use Rattle.cut_laws.specs.Contraction.{con}
use Rattle.arena_cells.specs.Standing.{sequent_at, formula_at, tree_at}
use Rattle.arena_cells.specs.Meaning.{trees_at}
use Rattle.arena_cuts.specs.CutNumbers.{cut_at}
use Rattle.arena_cuts.proofs.WholeWork.{whole_work, greatest_work}
use Rattle.arena_cuts.proofs.whole.+eliminate_whole.Given as goal

abbrev pub decreases-eliminate_whole_in : goal.decreases-eliminate_whole_in
decreases-eliminate_whole_in g l = 8 * whole_work (tree_at l.arena.now l.proof) + 2

abbrev pub decreases-whole_root : goal.decreases-whole_root
decreases-whole_root g l = 8 * whole_work (tree_at l.arena.now l.proof) + 1

abbrev pub decreases-whole_cut : goal.decreases-whole_cut
decreases-whole_cut g l = 8 * whole_work (cut_at l.arena.now l.cut)

abbrev pub decreases-whole_lowest : goal.decreases-whole_lowest
decreases-whole_lowest g l =
    8 * whole_work (con (sequent_at l.arena.now l.cut.end) (formula_at l.arena.now l.cut.formula) (tree_at l.arena.now l.cut.left) (tree_at l.arena.now l.cut.right)) + 3

abbrev pub decreases-whole_other : goal.decreases-whole_other
decreases-whole_other g l = 8 * whole_work (tree_at l.arena.now l.proof)

abbrev pub decreases-whole_premises : goal.decreases-whole_premises
decreases-whole_premises g l = 8 * greatest_work (trees_at l.arena.now l.proofs) + 4

abbrev pub decreases-whole_both : goal.decreases-whole_both
decreases-whole_both g l = 8 * max (whole_work (tree_at l.arena.now l.left)) (whole_work (tree_at l.arena.now l.right)) + 3
