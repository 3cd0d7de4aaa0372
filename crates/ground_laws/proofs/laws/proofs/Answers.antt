-- The laws are lemmas.
use Rattle.ground_laws.proofs.Reached.{own_atoms}
use Rattle.ground_laws.proofs.Ties.{same_faults, proof_of}
use Rattle.ground_laws.proofs.laws.proofs.Goals as goal

pub returns-clause-faults : goal.returns-clause-faults
returns-clause-faults c = same_faults

pub returns-clause-atoms : goal.returns-clause-atoms
returns-clause-atoms c = own_atoms

pub returns-clause-proof : goal.returns-clause-proof
returns-clause-proof c = proof_of
