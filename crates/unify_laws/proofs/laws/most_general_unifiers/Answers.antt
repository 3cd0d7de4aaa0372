-- The laws are lemmas.
use Rattle.std.specs.FinMap as fin
use Rattle.unify_laws.proofs.EachSide.{unifies-solves, sides_formed}
use Rattle.unify_laws.proofs.Unified.{most_general, through, idempotent}
use Rattle.unify_laws.proofs.WellFormed.{formed_unifier}
use Rattle.unify_laws.proofs.laws.most_general_unifiers.Goals as goal

pub returns-clause-unifies : goal.returns-clause-unifies
returns-clause-unifies c es m is = (unifies-solves (fin.get m) es).1 (most_general es m is).unifies

pub returns-clause-general : goal.returns-clause-general
returns-clause-general c es m is h = (λ all. (most_general es m is).general h ((unifies-solves h es).0 all), λ same. (unifies-solves h es).1 (through es m is h same))

pub returns-clause-bound : goal.returns-clause-bound
returns-clause-bound c es m is = (most_general es m is).bound

pub returns-clause-variables : goal.returns-clause-variables
returns-clause-variables c es m is = (most_general es m is).own

pub returns-clause-idempotent : goal.returns-clause-idempotent
returns-clause-idempotent c = idempotent

pub returns-clause-formed : goal.returns-clause-formed
returns-clause-formed c es m formed = formed_unifier es m (sides_formed es formed)
