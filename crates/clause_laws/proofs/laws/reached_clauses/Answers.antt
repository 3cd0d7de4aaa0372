-- The laws are lemmas.
use Rattle.std.specs.Prelude.{Contains}
use Rattle.clause_laws.specs.Rounds.{Level}
use Rattle.clause_laws.proofs.Atomic.{clause_level}
use Rattle.clause_laws.proofs.Covering.{variant_member, level_variant, level_later, level_resolvent}
use Rattle.clause_laws.proofs.laws.reached_clauses.Goals as goal

pub returns-clause-input : goal.returns-clause-input
returns-clause-input c cs = variant_member (Contains cs)

pub returns-clause-variant : goal.returns-clause-variant
returns-clause-variant c = level_variant

pub returns-clause-later : goal.returns-clause-later
returns-clause-later c = level_later

pub returns-clause-full_resolvent : goal.returns-clause-full_resolvent
returns-clause-full_resolvent g cs n c d r one two full =
    level_resolvent cs n (Level cs n) (λ e m. m) r (record { first = c; second = d; is_first = one; is_second = two; full = full })

pub returns-clause-clause : goal.returns-clause-clause
returns-clause-clause c = clause_level
