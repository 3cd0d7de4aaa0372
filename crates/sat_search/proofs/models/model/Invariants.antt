-- The atoms so far are well formed, and stand in the clauses.
use Rattle.std.proofs.Common.{◌≡◌, true}
use Rattle.std.specs.List.{All, list_all}
use Rattle.fol.specs.Formed.{IsFormed}
use Rattle.ground_laws.specs.Models.{occurs}
use Rattle.sat_search.specs.Grounds.{clauses_of}
use Rattle.sat_search.proofs.models.model.Given as goal

abbrev pub invariant-loop-clause : goal.invariant-loop-clause
invariant-loop-clause l = record {
  formed : All IsFormed l.atoms.items;
  own : list_all (occurs (clauses_of l.clauses)) l.atoms.items ≡ true;
}
