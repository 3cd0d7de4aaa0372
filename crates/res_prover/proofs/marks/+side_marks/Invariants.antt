-- Each call has one atom less.
use Rattle.std.proofs.Common.{length}
use Rattle.res_prover.proofs.marks.+side_marks.Given as goal

abbrev pub decreases-side_marks : goal.decreases-side_marks
decreases-side_marks l = length l.atoms.now
