-- A search for a map that sends the literals of a clause to atoms of another one.
--     side_at, sides      the sides of a clause, and literals as atoms with their sides
--     sends_literals      whether each literal can be sent to an atom on its side
--     IsLiteralIn, AreLiteralsOf      all literals of a clause, in any order
use Rattle.std.specs.Prelude.{◌≡◌, Bool, true, if◌then◌else◌, List, [], ◌∷◌, map, Contains}
use Rattle.std.specs.List.{list_any}
use Rattle.fol.specs.Syntax.{Formula}
use Rattle.finite.specs.Finite as set
use Rattle.substitution.specs.Maps.{Map}
use Rattle.lk_rules.specs.declared.sequent.Sequent.{Sequent}
use Rattle.lk_rules.specs.Formulas.{FormulaSet}
use Rattle.clause_laws.specs.Searching.{match_atom, goes_on}
use Rattle.res_prover.specs.declared.literals.Literal.{Literal}

abbrev pub side_at : Bool → Sequent → FormulaSet
side_at b d = if b then d.left else d.right

-- each literal with its side
abbrev pub sides : List Literal → List (Bool × Formula)
sides ls = map (λ (l : Literal). (l.is_left, l.atom.now)) ls

-- whether a map that does what m does sends each literal to an atom on its side of d
abbrev pub sends_literals : List Literal → Sequent → Map → Bool
sends_literals [] d m = true
sends_literals (l ∷ ls) d m = list_any (λ g. goes_on (sends_literals ls d) (match_atom l.atom.now g m)) (set.listing (side_at l.is_left d))

-- an atom on one side
pub record IsLiteralIn (ls : List Literal) (b : Bool) (f : Formula) : Type 0 where
  pub literal : Literal
  pub is_there : Contains ls literal
  pub side : literal.is_left ≡ b
  pub is_atom : literal.atom.now ≡ f

-- exactly the literals of c
pub record AreLiteralsOf (c : Sequent) (ls : List Literal) : Type 0 where
  pub of : (l : Literal) → Contains ls l → Contains (set.listing (side_at l.is_left c)) l.atom.now
  pub has : (b : Bool) (f : Formula) → Contains (set.listing (side_at b c)) f → IsLiteralIn ls b f
