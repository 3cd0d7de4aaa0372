-- No clause so far subsumes it.
use Rattle.std.proofs.Common.{◌≡◌, drop}
use Rattle.std.specs.List.{All, list_any}
use Rattle.clause_laws.specs.Subsumption.{IsClause}
use Rattle.clause_laws.specs.Searching.{subsumes}
use Rattle.res_prover.specs.declared.kept.Kept.{Kept}
use Rattle.res_prover.specs.Kept.{kept_clauses}
use Rattle.res_prover.proofs.keeping.is_subsumed.Given as goal

abbrev pub invariant-loop-place : goal.invariant-loop-place
invariant-loop-place l = All IsClause (kept_clauses l.kept) → list_any (λ (k : Kept). subsumes k.clause l.one.clause) l.kept ≡ list_any (λ (k : Kept). subsumes k.clause l.one.clause) (drop l.place l.kept)
