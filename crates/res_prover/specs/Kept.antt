-- Clauses that are kept.
--     kept_clauses      the clauses alone
--     is_needless      the test that a clause needs no place among them
--     IsNew      a clause that the last round added
--     WithInput      one input clause more
use Rattle.std.specs.Prelude.{◌≡◌, Bool, true, ◌||◌, List, map}
use Rattle.std.specs.List.{All, list_any}
use Rattle.lk_rules.specs.declared.sequent.Sequent.{Sequent}
use Rattle.clause_laws.specs.Subsumption.{IsClause}
use Rattle.clause_laws.specs.Searching.{subsumes, is_tautology}
use Rattle.clause_laws.specs.Normal.{normal}
use Rattle.clause_laws.specs.Keeping.{with_clause}
use Rattle.res_prover.specs.declared.kept.Kept.{Kept}

abbrev pub kept_clauses : List Kept → List Sequent
kept_clauses ks = map (λ (k : Kept). k.clause) ks

-- whether c is a tautology, or a clause that is kept subsumes it
abbrev pub is_needless : List Kept → Sequent → Bool
is_needless ks c = is_tautology c || list_any (λ (k : Kept). subsumes k.clause c) ks

abbrev pub IsNew : Kept → Type 0
IsNew k = k.is_new ≡ true

-- what is kept has the input clause more, with numbered variables, unless that is needless
pub record WithInput (c : Sequent) (old new : List Kept) : Type 0 where
  pub clauses : kept_clauses new ≡ with_clause (kept_clauses old) (normal c)
  pub still_new : All IsNew old → All IsNew new
  pub of_atoms : All IsClause (kept_clauses new)
