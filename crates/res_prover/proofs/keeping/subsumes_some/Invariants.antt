-- The clause subsumes none so far.
use Rattle.std.proofs.Common.{◌≡◌, drop}
use Rattle.std.specs.List.{list_any}
use Rattle.clause_laws.specs.Subsumption.{IsClause}
use Rattle.clause_laws.specs.Searching.{subsumes}
use Rattle.res_prover.specs.declared.kept.Kept.{Kept}
use Rattle.res_prover.proofs.keeping.subsumes_some.Given as goal

abbrev pub invariant-loop-place : goal.invariant-loop-place
invariant-loop-place l = IsClause l.one.clause → list_any (λ (k : Kept). subsumes l.one.clause k.clause) l.others ≡ list_any (λ (k : Kept). subsumes l.one.clause k.clause) (drop l.place l.others)
