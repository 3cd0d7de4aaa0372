-- The laws are lemmas.
use Rattle.std.specs.Prelude.{Contains}
use Rattle.clause_laws.proofs.Covering.{covered_member, covered_more, covered_by, empty_covered, resolvent_covered, round_covered}
use Rattle.clause_laws.proofs.laws.covering.Goals as goal

pub returns-clause-own : goal.returns-clause-own
returns-clause-own c ks = covered_member (Contains ks)

pub returns-clause-transitive : goal.returns-clause-transitive
returns-clause-transitive c js ks = covered_by (Contains js) (Contains ks)

pub returns-clause-subsumed : goal.returns-clause-subsumed
returns-clause-subsumed c ks = covered_more (Contains ks)

pub returns-clause-of_empty : goal.returns-clause-of_empty
returns-clause-of_empty c ks = empty_covered (Contains ks)

pub returns-clause-resolvents : goal.returns-clause-resolvents
returns-clause-resolvents c js ks = round_covered (Contains js) (Contains ks)

pub returns-clause-on_an_atom : goal.returns-clause-on_an_atom
returns-clause-on_an_atom g ks = resolvent_covered (Contains ks)
