-- Resolvents that are made of choices of atoms.
--     IsAtomFormed, IsUnifierFor      atoms, and a most general unifier of them
--     IsResolvedBy      the resolvent by some atoms, with numbered variables
use Rattle.std.specs.Prelude.{◌≡◌, true, List, ◌∷◌, ◌++◌, Option}
use Rattle.std.specs.FinMap as fin
use Rattle.fol.specs.declared.symbols.Var.{Var}
use Rattle.fol.specs.Syntax.{Term, Formula}
use Rattle.fol.specs.Formed.{IsFormed}
use Rattle.substitution.specs.Image.{image, IsFormedMap}
use Rattle.substitution.specs.Maps.{Map}
use Rattle.lk_rules.specs.declared.sequent.Sequent.{Sequent}
use Rattle.lk_rules.specs.Sequents.{image_sequent}
use Rattle.proof_trees.specs.FormulaSets.{is_atom}
use Rattle.refutations.specs.Refutations.{resolvent}
use Rattle.clause_laws.specs.Unifiers.{set_of, IsMostGeneral}
use Rattle.clause_laws.specs.Normal.{normal}

abbrev pub IsAtomFormed : Formula → Type 0
IsAtomFormed f = (is_atom f ≡ true) × IsFormed f

-- a most general unifier of an atom and others
pub record IsUnifierFor (f : Formula) (gs : List Formula) (m : Map) : Type 0 where
  pub formed : IsFormedMap (fin.get m)
  pub most_general : IsMostGeneral (fin.get m) (set_of (f ∷ gs)) (image (fin.get m) f)

-- the resolvent by right atoms of p and left atoms of n, with numbered variables
pub record IsResolvedBy (p n : Sequent) (fs gs : List Formula) (r : Sequent) : Type 0 where
  pub unifier : Var → Option Term
  pub atom : Formula
  pub of_atoms : is_atom atom ≡ true
  pub most_general : IsMostGeneral unifier (set_of (fs ++ gs)) atom
  pub is : r ≡ normal (resolvent (image_sequent unifier p) (image_sequent unifier n) atom)
