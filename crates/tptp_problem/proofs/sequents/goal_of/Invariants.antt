-- The conjunction so far, with the conjectures among the entries that are left, is that of all.
use Rattle.std.proofs.Common.{◌≡◌, drop, IfSome}
use Rattle.fol.specs.Formed.{IsFormed}
use Rattle.tptp_problem.specs.Closures.{conjectures, conjunction, joined_on, AreFormedEntries}
use Rattle.tptp_problem.proofs.sequents.goal_of.Given as goal

abbrev pub invariant-loop-entry : goal.invariant-loop-entry
invariant-loop-entry l = record {
  rest : AreFormedEntries (drop l.entry-index l.entries);
  goal : joined_on l.goal (conjectures (drop l.entry-index l.entries)) ≡ conjunction (conjectures l.entries);
  formed : IfSome l.goal IsFormed;
}
