-- The tuple gets shorter.
use Rattle.fol.specs.Syntax.{terms_nodes}
use Rattle.cut_intro.proofs.matrices.+matrix_instance.Given as goal

abbrev pub decreases-matrix_instance : goal.decreases-matrix_instance
decreases-matrix_instance l = terms_nodes l.tuple.now
