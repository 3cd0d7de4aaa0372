-- A round in the making.
--     ByAtoms      the resolvents by given atoms
--     IsNext      what a round may add
--     IsAt, is_over      what the stage of a round says
--     IsWork      what is kept in the course of a round
--     GoesOver      a round that goes on over further resolvents
--     FromOne      what one member of a list makes
use Rattle.std.specs.Prelude.{◌≡◌, ◌⊎◌, ◌||◌, Bool, true, false, List, ◌++◌, Contains, Option}
use Rattle.std.specs.List.{All}
use Rattle.fol.specs.declared.symbols.Var.{Var}
use Rattle.fol.specs.Syntax.{Term, Formula}
use Rattle.lk_rules.specs.declared.sequent.Sequent.{Sequent}
use Rattle.lk_rules.specs.Sequents.{empty, image_sequent}
use Rattle.refutations.specs.Refutations.{resolvent}
use Rattle.clause_laws.specs.Unifiers.{set_of, MakesAll, IsMostGeneral}
use Rattle.clause_laws.specs.Subsumption.{IsClause, IsVariant}
use Rattle.clause_laws.specs.Resolvents.{IsFullResolvent}
use Rattle.clause_laws.specs.Normal.{IsNormal}
use Rattle.clause_laws.specs.Rounds.{Covers, ResolventOf, IsClosed, VariantOf}
use Rattle.clause_laws.specs.Keeping.{IsReduced}
use Rattle.res_prover.specs.declared.kept.Kept.{Kept}
use Rattle.res_prover.specs.declared.partners.Partner.{Partner}
use Rattle.res_prover.specs.declared.work.Stage.{Stage}
use Rattle.res_prover.specs.declared.work.Stage.TheVariants.{Covered, Open, Empty}
use Rattle.res_prover.specs.declared.work.Work.{Work}
use Rattle.res_prover.specs.Kept.{kept_clauses}

-- the resolvents of p and n by right atoms of p and left ones of n, whatever most general unifier is taken
pub record ByAtoms (p n : Sequent) (fs gs : List Formula) (r : Sequent) : Type 0 where
  pub map : Var → Option Term
  pub atom : Formula
  pub unifies : MakesAll map (set_of (fs ++ gs)) atom
  pub any : (m : Var → Option Term) (b : Formula) → IsMostGeneral m (set_of (fs ++ gs)) b → IsVariant (resolvent (image_sequent m p) (image_sequent m n) b) r

-- a full resolvent of the clauses ks, with numbered variables
pub record IsNext (ks : List Sequent) (c : Sequent) : Type 0 where
  pub full : VariantOf (ResolventOf (Contains ks)) c
  pub normal : IsNormal c

-- Whether the round is over: with the empty clause, or, if it is to stop, with a resolvent that is not covered.
abbrev pub stage_over : Bool → Stage → Bool
stage_over stops Covered = false
stage_over stops Open = stops
stage_over stops Empty = true

abbrev pub is_over : Work → Bool
is_over w = stage_over w.stops w.stage

-- of a round that began with the clauses ks, and has now the clauses cs
abbrev pub IsAt : List Sequent → List Sequent → Stage → Type 0
IsAt ks cs Covered = cs ≡ ks
IsAt ks cs Open = IsClosed (Contains ks) → ⊥
IsAt ks cs Empty = (IsClosed (Contains ks) → ⊥) × VariantOf (ResolventOf (Contains ks)) empty

-- the stage after the clause c, which was not covered
abbrev pub IsStageAfter : Sequent → Stage → Type 0
IsStageAfter c Covered = ⊥
IsStageAfter c Open = Unit {0}
IsStageAfter c Empty = c ≡ empty

-- one that is not new stood there before the round
abbrev pub WasThere : List Sequent → Kept → Type 0
WasThere ks k = k.is_new ≡ false → Contains ks k.clause

-- in a round that began with the clauses ks
pub record IsWork (ks : List Sequent) (stops : Bool) (w : Work) : Type 0 where
  pub stops_so : w.stops ≡ stops
  pub begun : All IsClause ks
  pub covers : Covers (Contains (kept_clauses w.kept.items)) (Contains ks)
  pub from : All (λ c. Contains ks c ⊎ VariantOf (ResolventOf (Contains ks)) c) (kept_clauses w.kept.items)
  pub reduced : IsReduced (kept_clauses w.kept.items)
  pub normal : All IsNormal (kept_clauses w.kept.items)
  pub clauses : All IsClause (kept_clauses w.kept.items)
  pub old : All (WasThere ks) w.kept.items
  pub stage : IsAt ks (kept_clauses w.kept.items) w.stage

-- in such a round, from one moment to a later one: what was covered still is, and, unless the round is over, the clauses of one kind more
pub record GoesOver (ks : List Sequent) (stops : Bool) (old new : Work) (kind : Sequent → Type 0) : Type 0 where
  pub work : IsWork ks stops new
  pub covers : Covers (Contains (kept_clauses new.kept.items)) (Contains (kept_clauses old.kept.items))
  pub further : is_over new ≡ false → Covers (Contains (kept_clauses new.kept.items)) kind

-- what some member of a list makes
pub record FromOne {X : Type 0} (by_one : X → Sequent → Type 0) (xs : List X) (r : Sequent) : Type 0 where
  pub one : X
  pub is_one : Contains xs one
  pub by : by_one one r

-- the full resolvents of two clauses of which one is new
pub record ByNew (p n : Partner) (r : Sequent) : Type 0 where
  pub some_new : (p.is_new || n.is_new) ≡ true
  pub full : IsFullResolvent p.clause n.clause r
