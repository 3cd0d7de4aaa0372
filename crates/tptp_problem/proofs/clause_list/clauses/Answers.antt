-- No entry is left.
use Rattle.std.proofs.Common.{◌≤◌, length, arith}
use Rattle.tptp_problem.proofs.ReadClauses.{all_clauses}
use Rattle.tptp_problem.proofs.clause_list.clauses.Goals as goal

pub returns-clause-clauses : goal.returns-clause-clauses
returns-clause-clauses c read =
    let over : length c.as_slice-entry-items.result.now ≤ c.loop-entry.entry-index = omega (arith, c.loop-entry-test.false) in
    all_clauses c.as_slice-entry-items.result.now c.args.problem.now.entries c.loop-entry.clauses.items c.loop-entry.entry-index c.as_slice-entry-items.ensures over c.loop-entry.invariant read.entries
