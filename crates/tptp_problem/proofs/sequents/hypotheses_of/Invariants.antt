-- The closures so far, with those of the entries that are left, are those of all.
use Rattle.std.proofs.Common.{◌≡◌, ◌++◌, drop}
use Rattle.std.specs.List.{All}
use Rattle.fol.specs.Formed.{IsFormed}
use Rattle.tptp_problem.specs.Closures.{hypotheses, AreFormedEntries}
use Rattle.tptp_problem.proofs.sequents.hypotheses_of.Given as goal

abbrev pub invariant-loop-entry : goal.invariant-loop-entry
invariant-loop-entry l = record {
  rest : AreFormedEntries (drop l.entry-index l.entries);
  closures : l.list.items ++ hypotheses (drop l.entry-index l.entries) ≡ hypotheses l.entries;
  formed : All IsFormed l.list.items;
}
