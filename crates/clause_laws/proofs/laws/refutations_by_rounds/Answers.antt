-- The laws are lemmas.
use Rattle.clause_laws.proofs.Refuted.{all_literals, refuted}
use Rattle.clause_laws.proofs.laws.refutations_by_rounds.Goals as goal

pub returns-clause-literals : goal.returns-clause-literals
returns-clause-literals c = all_literals

pub returns-clause-reached : goal.returns-clause-reached
returns-clause-reached c = refuted
