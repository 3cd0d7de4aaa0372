-- The full resolvents of two clauses as a list, by all choices of some right atoms of the one and some left atoms of the other.
--     sublists, choices      the parts of a list
--     full_resolvents      the resolvents by all choices, of the clauses renamed apart
--     ByChoice      a clause that is a resolvent by some choice, whatever most general unifier is taken
use Rattle.std.specs.Prelude.{◌≡◌, true, List, [], ◌∷◌, ◌++◌, map, Contains, Option, option_map}
use Rattle.std.specs.List.{flat_map}
use Rattle.std.specs.Option.{option_to_list}
use Rattle.fol.specs.declared.symbols.Var.{Var}
use Rattle.fol.specs.Syntax.{Term, Formula}
use Rattle.finite.specs.Finite as set
use Rattle.lk_rules.specs.declared.sequent.Sequent.{Sequent}
use Rattle.lk_rules.specs.Sequents.{image_sequent}
use Rattle.clause_laws.specs.Apart.{first_apart, second_apart}
use Rattle.proof_trees.specs.FormulaSets.{is_atom}
use Rattle.refutations.specs.Refutations.{resolvent}
use Rattle.clause_laws.specs.Subsumption.{IsVariant}
use Rattle.clause_laws.specs.Unifiers.{set_of, MakesAll, IsMostGeneral, unifier}
use Rattle.clause_laws.specs.Resolvents.{resolved_by}

-- the lists of some members of a list, in its order
abbrev pub sublists : List Formula → List (List Formula)
sublists [] = [] ∷ []
sublists (f ∷ fs) = map (λ gs. f ∷ gs) (sublists fs) ++ sublists fs

-- those of one or more members
abbrev pub choices : List Formula → List (List Formula)
choices [] = []
choices (f ∷ fs) = map (λ gs. f ∷ gs) (sublists fs) ++ choices fs

-- the resolvent by these right atoms of c and these left atoms of d, where they have a unifier
abbrev pub resolvents_by : Sequent → Sequent → List Formula → List Formula → List Sequent
resolvents_by c d [] gs = []
resolvents_by c d (f ∷ fs) gs = option_to_list (option_map (resolved_by c d f) (unifier ((f ∷ fs) ++ gs)))

-- the resolvents of clauses without a common variable
abbrev pub resolvents_apart : Sequent → Sequent → List Sequent
resolvents_apart c d = flat_map (λ fs. flat_map (resolvents_by c d fs) (choices (set.listing d.left))) (choices (set.listing c.right))

-- the full resolvents of any two clauses
unfoldable pub full_resolvents : Sequent → Sequent → List Sequent
full_resolvents c d = resolvents_apart (image_sequent first_apart c) (image_sequent second_apart d)

-- Some right atoms of c and some left atoms of d have a unifier, and the resolvent by any most general one of them is a variant of r.
pub record ByChoice (c d r : Sequent) : Type 0 where
  pub positive : List Formula
  pub negative : List Formula
  pub is_positive : Contains (choices (set.listing c.right)) positive
  pub is_negative : Contains (choices (set.listing d.left)) negative
  pub map : Var → Option Term
  pub atom : Formula
  pub of_atoms : is_atom atom ≡ true
  pub unifies : MakesAll map (set_of (positive ++ negative)) atom
  pub any : (m : Var → Option Term) (b : Formula) → IsMostGeneral m (set_of (positive ++ negative)) b → IsVariant (resolvent (image_sequent m c) (image_sequent m d) b) r
