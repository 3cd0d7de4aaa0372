-- Rounds of resolution in which only clauses are kept that no other one makes needless.
--     is_covered      the test that a clause needs no place in a list
--     with_clause, with_each      further clauses, without those that others subsume
--     resolvents_of, rounds      all full resolvents of a list, and a number of rounds
--     is_closed      the test that a further round brings nothing
--     IsReduced      a list without needless clauses
use Rattle.std.specs.Prelude.{ℕ, zero, suc, Bool, not as negated, ◌||◌, if◌then◌else◌, List, [], ◌∷◌, map, filter}
use Rattle.std.specs.List.{All, AllPairs, list_all, list_any, flat_map}
use Rattle.lk_rules.specs.declared.sequent.Sequent.{Sequent}
use Rattle.clause_laws.specs.Subsumption.{Subsumes, IsTautology}
use Rattle.clause_laws.specs.Searching.{subsumes, is_tautology}
use Rattle.clause_laws.specs.Choices.{full_resolvents}
use Rattle.clause_laws.specs.Normal.{normal}

-- whether c is a tautology, or a clause of the list subsumes it
abbrev pub is_covered : List Sequent → Sequent → Bool
is_covered ks c = is_tautology c || list_any (λ k. subsumes k c) ks

-- One clause more. It is left out where it is covered (forward subsumption), and else the clauses that it subsumes go (backward
-- subsumption).
abbrev pub with_clause : List Sequent → Sequent → List Sequent
with_clause ks c = if is_covered ks c then ks else c ∷ filter (λ k. negated (subsumes c k)) ks

-- the clauses of a list more, one after the other
abbrev pub with_each : List Sequent → List Sequent → List Sequent
with_each ks [] = ks
with_each ks (c ∷ cs) = with_each (with_clause ks c) cs

-- all full resolvents of two clauses of a list, and of each with itself
abbrev pub resolvents_of : List Sequent → List Sequent
resolvents_of ks = flat_map (λ c. flat_map (full_resolvents c) ks) ks

-- what is kept after n rounds, with numbered variables
unfoldable pub rounds : List Sequent → ℕ → List Sequent
rounds cs zero = with_each [] (map normal cs)
rounds cs (suc n) = with_each (rounds cs n) (map normal (resolvents_of (rounds cs n)))

-- whether each full resolvent of two clauses of a list is covered
abbrev pub is_closed : List Sequent → Bool
is_closed ks = list_all (is_covered ks) (resolvents_of ks)

-- neither clause subsumes the other one
abbrev pub AreIndependent : Sequent → Sequent → Type 0
AreIndependent c d = (Subsumes c d → ⊥) × (Subsumes d c → ⊥)

-- no clause is a tautology, and none is subsumed by another one
pub record IsReduced (ks : List Sequent) : Type 0 where
  pub no_tautology : All (λ (k : Sequent). IsTautology k → ⊥) ks
  pub independent : AllPairs AreIndependent ks
