-- Full resolvents (Robinson 1965): several atoms of each clause become one, and go.
--     IsResolvent      of clauses without a common variable
--     IsFullResolvent      of any two clauses, renamed apart
--     SubsumedByResolvent, SubsumedByPair      a clause that some full resolvent subsumes, or one of the two clauses
--     resolved_by      by a given unifier
use Rattle.std.specs.Prelude.{◌≡◌, ◌⊎◌, true, Option}
use Rattle.std.specs.FinMap as fin
use Rattle.fol.specs.declared.symbols.Var.{Var}
use Rattle.fol.specs.Syntax.{Term, Formula}
use Rattle.finite.specs.Finite as set
use Rattle.free_variables.specs.Union.{union_of}
use Rattle.substitution.specs.Image.{image}
use Rattle.substitution.specs.Maps.{Map}
use Rattle.lk_rules.specs.declared.sequent.Sequent.{Sequent}
use Rattle.lk_rules.specs.Formulas.{FormulaSet}
use Rattle.lk_rules.specs.Sequents.{image_sequent}
use Rattle.proof_trees.specs.FormulaSets.{is_atom}
use Rattle.refutations.specs.Refutations.{resolvent}
use Rattle.clause_laws.specs.Subsumption.{Subsumes, IsVariant, AreApart}
use Rattle.clause_laws.specs.Unifiers.{IsMostGeneral}

-- one or more formulas of a set
pub record AreSome (chosen s : FormulaSet) : Type 0 where
  pub one : Formula
  pub is_one : set.has chosen one ≡ true
  pub within : set.IsSubset chosen s

-- For some right atoms of c and some left atoms of d that have a most general unifier, which makes them all the atom a: the image of c
-- without a on the right joined with the image of d without a on the left.
pub record IsResolvent (c d r : Sequent) : Type 0 where
  pub positive : FormulaSet
  pub negative : FormulaSet
  pub some_positive : AreSome positive c.right
  pub some_negative : AreSome negative d.left
  pub unifier : Var → Option Term
  pub atom : Formula
  pub of_atoms : is_atom atom ≡ true
  pub most_general : IsMostGeneral unifier (union_of positive negative) atom
  pub is : r ≡ resolvent (image_sequent unifier c) (image_sequent unifier d) atom

-- the same of variants of c and d that are apart
pub record IsFullResolvent (c d r : Sequent) : Type 0 where
  pub first : Sequent
  pub second : Sequent
  pub first_variant : IsVariant c first
  pub second_variant : IsVariant d second
  pub apart : AreApart first second
  pub resolves : IsResolvent first second r

-- some full resolvent of c and d subsumes r
pub record SubsumedByResolvent (c d r : Sequent) : Type 0 where
  pub resolvent : Sequent
  pub full : IsFullResolvent c d resolvent
  pub subsumes : Subsumes resolvent r

-- c, d or some full resolvent of them subsumes r
abbrev pub SubsumedByPair : Sequent → Sequent → Sequent → Type 0
SubsumedByPair c d r = Subsumes c r ⊎ (Subsumes d r ⊎ SubsumedByResolvent c d r)

-- the resolvent of c and d by a unifier of some atoms, of which f is one
abbrev pub resolved_by : Sequent → Sequent → Formula → Map → Sequent
resolved_by c d f m = resolvent (image_sequent (fin.get m) c) (image_sequent (fin.get m) d) (image (fin.get m) f)
