-- The table has clauses that the steps so far derive.
use Rattle.sat_search.specs.Grounds.{clauses_of}
use Rattle.sat_search.specs.Derived.{IsSound, AreDerived}
use Rattle.sat_search.proofs.refuting.refutation.Given as goal

abbrev pub invariant-loop-number : goal.invariant-loop-number
invariant-loop-number l = record {
  sound : IsSound (clauses_of l.clauses) l.steps.items;
  derived : AreDerived (clauses_of l.clauses) l.steps.items l.table.items;
}
