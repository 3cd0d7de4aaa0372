-- What a search has reached.
--     apart_by      the map to even or to odd numbers
--     IsReached      clauses that some rounds reach, and that cover all that these reach
--     AreOldResolved      clauses that are not new have no resolvent that is not covered
--     IsKeptAfter      what is kept after some rounds
--     IsReady, IsRoundOf      what a round begins with, and what it ends with
use Rattle.std.specs.Prelude.{◌≡◌, ℕ, Bool, false, if◌then◌else◌, List, Contains, Option}
use Rattle.std.specs.List.{All}
use Rattle.fol.specs.declared.symbols.Var.{Var}
use Rattle.fol.specs.Syntax.{Term}
use Rattle.lk_rules.specs.declared.sequent.Sequent.{Sequent}
use Rattle.clause_laws.specs.Apart.{first_apart, second_apart}
use Rattle.clause_laws.specs.Subsumption.{IsClause}
use Rattle.clause_laws.specs.Resolvents.{IsFullResolvent}
use Rattle.clause_laws.specs.Normal.{IsNormal}
use Rattle.clause_laws.specs.Rounds.{IsCovered, Covers, ResolventOf, Level}
use Rattle.clause_laws.specs.Keeping.{IsReduced}
use Rattle.res_prover.specs.declared.kept.Kept.{Kept}
use Rattle.res_prover.specs.declared.work.Work.{Work}
use Rattle.res_prover.specs.Kept.{kept_clauses}
use Rattle.res_prover.specs.Partners.{kept_aged}
use Rattle.res_prover.specs.Working.{is_over, IsWork}

-- to odd numbers for the second clause, and to even ones for the first
abbrev pub apart_by : Bool → Var → Option Term
apart_by b v = if b then second_apart v else first_apart v

-- after n rounds these clauses are kept
pub record IsReached (cs : List Sequent) (n : ℕ) (ks : List Sequent) : Type 0 where
  pub covers : Covers (Contains ks) (Level cs n)
  pub reached : (c : Sequent) → Contains ks c → Level cs n c
  pub reduced : IsReduced ks
  pub normal : All IsNormal ks
  pub clauses : All IsClause ks

-- the clauses cover each full resolvent of two that are not new
abbrev pub AreOldResolved : List Kept → Type 0
AreOldResolved ks = (c d r : Sequent) → Contains (kept_aged ks) (c, false) → Contains (kept_aged ks) (d, false) → IsFullResolvent c d r → IsCovered (Contains (kept_clauses ks)) r

-- what is kept after n rounds
pub record IsKeptAfter (cs : List Sequent) (n : ℕ) (ks : List Kept) : Type 0 where
  pub reached : IsReached cs n (kept_clauses ks)
  pub resolved : AreOldResolved ks

-- what is kept before a round
pub record IsReady (ks : List Kept) : Type 0 where
  pub reduced : IsReduced (kept_clauses ks)
  pub normal : All IsNormal (kept_clauses ks)
  pub clauses : All IsClause (kept_clauses ks)
  pub resolved : AreOldResolved ks

-- a round that began with the clauses ks: unless it was over before its end, their resolvents are covered
pub record IsRoundOf (ks : List Kept) (stops : Bool) (w : Work) : Type 0 where
  pub work : IsWork (kept_clauses ks) stops w
  pub covers : is_over w ≡ false → Covers (Contains (kept_clauses w.kept.items)) (ResolventOf (Contains (kept_clauses ks)))
