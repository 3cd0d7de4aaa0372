-- What a valid proof comes to is valid.
use Rattle.proof_subst.specs.Benches.{arena_in}
use Rattle.arena_cells.specs.Standing.{tree_at}
use Rattle.arena_cuts.proofs.WholeSteps.{reduced_valid}
use Rattle.cut_elim.proofs.whole.compute_whole.Goals as goal

pub proof_at-answer-requires-clause-valid : goal.proof_at-answer-requires-clause-valid
proof_at-answer-requires-clause-valid g c =
    reduced_valid c.args.proof.now.tree (tree_at (arena_in c.whole_tree.new.pass) c.in-Ok.number) c.known.ensures.valid c.in-Ok.ensures.reduced
