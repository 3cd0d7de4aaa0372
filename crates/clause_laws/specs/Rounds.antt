-- Rounds of resolution: each adds all full resolvents of what stood before. A set of clauses is given by what is a member of it.
--     SubsumedBy, IsCovered, Covers      a set that makes others needless, but for tautologies
--     ResolventOf, WithResolvents, ResolventWith      all full resolvents of two members
--     IsClosed      a set whose full resolvents bring nothing more
--     VariantOf, Level      the clauses that a number of rounds reach
use Rattle.std.specs.Prelude.{ℕ, zero, suc, ◌⊎◌, List, Contains}
use Rattle.lk_rules.specs.declared.sequent.Sequent.{Sequent}
use Rattle.clause_laws.specs.Subsumption.{Subsumes, IsVariant, IsTautology}
use Rattle.clause_laws.specs.Resolvents.{IsFullResolvent}

-- a member subsumes c
pub record SubsumedBy (k : Sequent → Type 0) (c : Sequent) : Type 0 where
  pub member : Sequent
  pub is_member : k member
  pub subsumes : Subsumes member c

-- c is a tautology, or a member subsumes it
abbrev pub IsCovered : (Sequent → Type 0) → Sequent → Type 0
IsCovered k c = IsTautology c ⊎ SubsumedBy k c

-- k covers each member of l
abbrev pub Covers : (Sequent → Type 0) → (Sequent → Type 0) → Type 0
Covers k l = (c : Sequent) → l c → IsCovered k c

-- a full resolvent of two members, or of a member with itself
pub record ResolventOf (k : Sequent → Type 0) (r : Sequent) : Type 0 where
  pub first : Sequent
  pub second : Sequent
  pub is_first : k first
  pub is_second : k second
  pub full : IsFullResolvent first second r

-- a member, or a full resolvent of two
abbrev pub WithResolvents : (Sequent → Type 0) → Sequent → Type 0
WithResolvents k c = k c ⊎ ResolventOf k c

-- each full resolvent of two members is a tautology, or a member subsumes it
abbrev pub IsClosed : (Sequent → Type 0) → Type 0
IsClosed k = Covers k (ResolventOf k)

-- a full resolvent of two members of k, one of which at least is a member of n
pub record ResolventWith (k n : Sequent → Type 0) (r : Sequent) : Type 0 where
  pub first : Sequent
  pub second : Sequent
  pub is_first : k first
  pub is_second : k second
  pub some_new : n first ⊎ n second
  pub full : IsFullResolvent first second r

-- a variant of a member
pub record VariantOf (k : Sequent → Type 0) (c : Sequent) : Type 0 where
  pub member : Sequent
  pub is_member : k member
  pub variant : IsVariant member c

-- what n rounds reach from the clauses of a list, where variants count as one
abbrev pub Level : List Sequent → ℕ → Sequent → Type 0
Level cs zero c = VariantOf (Contains cs) c
Level cs (suc n) c = VariantOf (WithResolvents (Level cs n)) c
