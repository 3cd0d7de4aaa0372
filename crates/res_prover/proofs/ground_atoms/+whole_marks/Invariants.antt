-- Each call has one atom less.
use Rattle.std.proofs.Common.{length}
use Rattle.res_prover.proofs.ground_atoms.+whole_marks.Given as goal

abbrev pub decreases-whole_marks : goal.decreases-whole_marks
decreases-whole_marks l = length l.atoms.now
