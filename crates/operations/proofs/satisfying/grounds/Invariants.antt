-- The clauses so far are there.
use Rattle.std.proofs.Common.{◌≡◌, take}
use Rattle.ground_laws.specs.Steps.{sequents_of}
use Rattle.sat_search.specs.Grounds.{clauses_of}
use Rattle.operations.proofs.satisfying.grounds.Given as goal

abbrev pub invariant-loop-clause : goal.invariant-loop-clause
invariant-loop-clause l = clauses_of l.grounds.items ≡ sequents_of (take l.clause-index l.clauses)
