-- The rest of the clauses has to be added to what is kept so far.
use Rattle.std.proofs.Common.{◌≡◌, [], drop, map}
use Rattle.std.specs.List.{All}
use Rattle.clause_laws.specs.Subsumption.{IsClause}
use Rattle.clause_laws.specs.Normal.{normal}
use Rattle.clause_laws.specs.Keeping.{with_each}
use Rattle.res_prover.specs.Kept.{kept_clauses, IsNew}
use Rattle.res_prover.proofs.starting.start.Given as goal

abbrev pub invariant-loop-place : goal.invariant-loop-place
invariant-loop-place l = record {
  clauses : with_each (kept_clauses l.kept.items) (map normal (drop l.place l.clauses)) ≡ with_each [] (map normal l.clauses);
  all_new : All IsNew l.kept.items;
  of_atoms : All IsClause (kept_clauses l.kept.items);
}
