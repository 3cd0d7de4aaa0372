-- Those so far that the clause doesn't subsume.
use Rattle.std.proofs.Common.{◌≡◌, not, filter, take}
use Rattle.clause_laws.specs.Subsumption.{IsClause}
use Rattle.clause_laws.specs.Searching.{subsumes}
use Rattle.res_prover.specs.declared.kept.Kept.{Kept}
use Rattle.res_prover.proofs.keeping.remaining.Given as goal

abbrev pub invariant-loop-place : goal.invariant-loop-place
invariant-loop-place l = IsClause l.one.clause → l.kept.items ≡ filter (λ (k : Kept). not (subsumes l.one.clause k.clause)) (take l.place l.others)
