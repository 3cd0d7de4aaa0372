-- Choices of atoms that have a unifier, as lists that grow.
--     IsUnified      atoms that some map makes one
--     IsExtension      the chosen atoms, and then some of the others
--     AddsExtensions, AddsChoices      lists with these more
--     AreUnifiedChoices      the choices that have a unifier
use Rattle.std.specs.Prelude.{◌≡◌, ◌⊎◌, List, ◌++◌, Contains, Option}
use Rattle.fol.specs.declared.symbols.Var.{Var}
use Rattle.fol.specs.Syntax.{Term, Formula}
use Rattle.clause_laws.specs.Unifiers.{set_of, MakesAll}
use Rattle.clause_laws.specs.Choices.{sublists, choices}

-- some map makes the formulas of the list one
pub record IsUnified (fs : List Formula) : Type 0 where
  pub map : Var → Option Term
  pub atom : Formula
  pub unifies : MakesAll map (set_of fs) atom

-- the chosen formulas, and then some of the others
pub record IsExtension (chosen others fs : List Formula) : Type 0 where
  pub further : List Formula
  pub is_further : Contains (sublists others) further
  pub is : fs ≡ chosen ++ further

-- all old lists, and besides them extensions alone, among them each that has a unifier
pub record AddsExtensions (chosen others : List Formula) (old new : List (List Formula)) : Type 0 where
  pub stays : (fs : List Formula) → Contains old fs → Contains new fs
  pub each : (fs : List Formula) → Contains new fs → Contains old fs ⊎ IsExtension chosen others fs
  pub has : (fs : List Formula) → IsExtension chosen others fs → IsUnified fs → Contains new fs

-- the same for choices
pub record AddsChoices (atoms : List Formula) (old new : List (List Formula)) : Type 0 where
  pub stays : (fs : List Formula) → Contains old fs → Contains new fs
  pub each : (fs : List Formula) → Contains new fs → Contains old fs ⊎ Contains (choices atoms) fs
  pub has : (fs : List Formula) → Contains (choices atoms) fs → IsUnified fs → Contains new fs

-- choices alone, and each one that has a unifier
pub record AreUnifiedChoices (atoms : List Formula) (lists : List (List Formula)) : Type 0 where
  pub each : (fs : List Formula) → Contains lists fs → Contains (choices atoms) fs
  pub has : (fs : List Formula) → Contains (choices atoms) fs → IsUnified fs → Contains lists fs
