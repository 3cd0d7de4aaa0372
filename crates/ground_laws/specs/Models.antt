-- Models of ground clauses. A clause is a sequent of atoms without variables: the negative ones are on the left, the positive ones on the
-- right, and it says that one of the left is false or one of the right is true. What is said of models and refutations asks nothing of the
-- formulas: each counts as an atom.
--     is_ground_atom, is_ground      atoms without variables, and clauses of such atoms
--     satisfies      a clause holds where just these atoms are true
--     occurs      an atom stands in a clause
--     IsModel      all clauses hold where just these atoms, which stand in them, are true
use Rattle.std.specs.Prelude.{◌≡◌, Bool, true, ◌&&◌, ◌||◌, not as negated, List}
use Rattle.std.specs.List.{list_all, list_any}
use Rattle.fol.specs.Syntax.{Formula}
use Rattle.fol.specs.Facts.{is_open}
use Rattle.finite.specs.Finite as set
use Rattle.lk_rules.specs.declared.sequent.Sequent.{Sequent}
use Rattle.lk_rules.specs.Formulas.{FormulaSet}
use Rattle.proof_trees.specs.FormulaSets.{is_atom}

-- an atom in which no variable stands
abbrev pub is_ground_atom : Formula → Bool
is_ground_atom f = is_atom f && negated (is_open f)

-- a clause of such atoms
abbrev pub is_ground : Sequent → Bool
is_ground c = list_all is_ground_atom (set.listing c.left) && list_all is_ground_atom (set.listing c.right)

-- one of the left is false, or one of the right is true
abbrev pub satisfies : FormulaSet → Sequent → Bool
satisfies a c = list_any (λ f. negated (set.has a f)) (set.listing c.left) || list_any (set.has a) (set.listing c.right)

-- some clause has it, on either side
abbrev pub occurs : List Sequent → Formula → Bool
occurs cs f = list_any (λ (c : Sequent). set.has c.left f || set.has c.right f) cs

-- the true atoms stand in the clauses, and each clause holds
pub record IsModel (a : FormulaSet) (cs : List Sequent) : Type 0 where
  pub own : (f : Formula) → set.has a f ≡ true → occurs cs f ≡ true
  pub satisfied : list_all (satisfies a) cs ≡ true
