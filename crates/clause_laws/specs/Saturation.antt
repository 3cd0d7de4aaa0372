-- What shows that rounds of resolution have come to an end without the empty clause.
use Rattle.std.specs.Prelude.{ℕ, List, Contains}
use Rattle.std.specs.List.{All}
use Rattle.lk_rules.specs.declared.sequent.Sequent.{Sequent}
use Rattle.lk_rules.specs.Sequents.{empty}
use Rattle.clause_laws.specs.Normal.{IsNormal}
use Rattle.clause_laws.specs.Rounds.{Covers, IsClosed, Level}
use Rattle.clause_laws.specs.Keeping.{IsReduced}

-- The clauses ks, which n rounds reach from cs, cover these and all their own full resolvents. None is empty, a tautology or subsumed by
-- another one, and their variables are numbered.
pub record IsSaturation (cs : List Sequent) (n : ℕ) (ks : List Sequent) : Type 0 where
  pub not_empty : Contains ks empty → ⊥
  pub reduced : IsReduced ks
  pub reached : (c : Sequent) → Contains ks c → Level cs n c
  pub normal : All IsNormal ks
  pub inputs : Covers (Contains ks) (Contains cs)
  pub closed : IsClosed (Contains ks)
