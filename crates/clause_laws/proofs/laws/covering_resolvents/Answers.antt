-- The laws are lemmas.
use Rattle.std.specs.Prelude.{Contains}
use Rattle.clause_laws.proofs.KeptRounds.{resolvents_by_list}
use Rattle.clause_laws.proofs.Saturations.{new_resolvents}
use Rattle.clause_laws.proofs.laws.covering_resolvents.Goals as goal

pub returns-clause-listed : goal.returns-clause-listed
returns-clause-listed c js ks = resolvents_by_list ks (Contains js)

pub returns-clause-new : goal.returns-clause-new
returns-clause-new c = new_resolvents
