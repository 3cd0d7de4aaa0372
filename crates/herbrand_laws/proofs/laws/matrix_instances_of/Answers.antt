-- The laws are lemmas.
use Rattle.herbrand_laws.proofs.Matrices.{matrix_plain}
use Rattle.herbrand_laws.proofs.CutMatrix.{formed_matrix}
use Rattle.herbrand_laws.proofs.laws.matrix_instances_of.Goals as goal

pub returns-clause-plain : goal.returns-clause-plain
returns-clause-plain c = matrix_plain

pub returns-clause-formed : goal.returns-clause-formed
returns-clause-formed c = formed_matrix
