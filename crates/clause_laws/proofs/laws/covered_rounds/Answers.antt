-- The laws are lemmas.
use Rattle.std.specs.Prelude.{Contains}
use Rattle.clause_laws.proofs.Covering.{level_start, level_next, closed_later}
use Rattle.clause_laws.proofs.laws.covered_rounds.Goals as goal

pub returns-clause-input : goal.returns-clause-input
returns-clause-input c cs ks = level_start cs (Contains ks)

pub returns-clause-next : goal.returns-clause-next
returns-clause-next c cs js ks n = level_next cs (Contains js) n (Contains ks)

pub returns-clause-closed : goal.returns-clause-closed
returns-clause-closed c cs ks = closed_later cs (Contains ks)
