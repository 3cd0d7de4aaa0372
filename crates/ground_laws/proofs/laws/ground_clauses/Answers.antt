-- The laws are lemmas.
use Rattle.ground_laws.proofs.Ground.{literals_ground, ground_atom}
use Rattle.ground_laws.proofs.laws.ground_clauses.Goals as goal

pub returns-clause-literals : goal.returns-clause-literals
returns-clause-literals c = literals_ground

pub returns-clause-atoms : goal.returns-clause-atoms
returns-clause-atoms c = ground_atom
