-- The clauses so far are there.
use Rattle.std.proofs.Common.{◌≡◌, take}
use Rattle.ground_laws.specs.Steps.{sequents_of}
use Rattle.res_prover.specs.Clauses.{clauses_of}
use Rattle.operations.proofs.saturating.literals_of_each.Given as goal

abbrev pub invariant-loop-clause : goal.invariant-loop-clause
invariant-loop-clause l = clauses_of l.all.items ≡ sequents_of (take l.clause-index l.clauses)
