-- Whether a clause subsumes another one, by a search for the map: each atom of the one is matched with an atom of the other, one after
-- another, where the variables that have a term keep it.
--     match_atom      the map with the terms that one atom needs
--     sends_each      whether each atom of a list can be sent into another list
--     subsumes, is_tautology      the tests
use Rattle.std.specs.Prelude.{Bool, true, false, if◌then◌else◌, List, [], ◌∷◌, Option, Some, None}
use Rattle.std.specs.List.{list_any}
use Rattle.std.specs.FinMap as fin
use Rattle.fol.specs.Syntax.{Formula}
use Rattle.finite.specs.Finite as set
use Rattle.substitution.specs.Maps.{Map}
use Rattle.lk_rules.specs.declared.sequent.Sequent.{Sequent}
use Rattle.unify_laws.specs.Matching.{match_term}
use Rattle.clause_laws.specs.Unifiers.{term_of, same_predicate}

-- the map m, with terms for further variables, under which an atom becomes another one
abbrev pub match_atom : Formula → Formula → Map → Option Map
match_atom f g m = if same_predicate f g then match_term (term_of f) (term_of g) m else None

-- whether the search goes on to its end from a map, where there is one
abbrev pub goes_on : (Map → Bool) → Option Map → Bool
goes_on next None = false
goes_on next (Some m) = next m

-- whether a map that does what m does sends each atom of the first list to one of the second, and goes on
abbrev pub sends_each : List Formula → List Formula → (Map → Bool) → Map → Bool
sends_each [] gs next m = next m
sends_each (f ∷ fs) gs next m = list_any (λ g. goes_on (sends_each fs gs next) (match_atom f g m)) gs

-- whether c subsumes d
unfoldable pub subsumes : Sequent → Sequent → Bool
subsumes c d = sends_each (set.listing c.left) (set.listing d.left) (sends_each (set.listing c.right) (set.listing d.right) (λ m. true)) fin.empty

-- whether an atom stands on both sides
abbrev pub is_tautology : Sequent → Bool
is_tautology c = list_any (set.has c.right) (set.listing c.left)
