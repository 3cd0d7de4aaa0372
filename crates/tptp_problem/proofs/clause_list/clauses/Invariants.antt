-- The clauses of the entries so far are there.
use Rattle.std.proofs.Common.{◌≡◌, ◌++◌, drop}
use Rattle.tptp_problem.specs.ProblemClauses.{clauses_of}
use Rattle.tptp_problem.proofs.clause_list.clauses.Given as goal

abbrev pub invariant-loop-entry : goal.invariant-loop-entry
invariant-loop-entry l = l.clauses.items ++ clauses_of (drop l.entry-index l.entry-items) ≡ clauses_of l.problem.entries
