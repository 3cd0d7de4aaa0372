-- A full resolvent by single steps, as a refutation writes them down: an image of each clause, and then what is left of both without an atom.
--     taken      a map on some variables as a finite map
--     BySteps      a clause by such steps
--     IsDerived      a clause by any number of steps
use Rattle.std.specs.Prelude.{◌≡◌, true, List, [], ◌∷◌, Contains, Option}
use Rattle.std.specs.FinMap as fin
use Rattle.fol.specs.declared.symbols.Var.{Var}
use Rattle.fol.specs.Syntax.{Term, free, Formula}
use Rattle.finite.specs.Finite as set
use Rattle.substitution.specs.Image.{image_term}
use Rattle.substitution.specs.Maps.{Map}
use Rattle.lk_rules.specs.declared.sequent.Sequent.{Sequent}
use Rattle.lk_rules.specs.Sequents.{image_sequent}
use Rattle.refutations.specs.Refutations.{resolvent}

-- what the map does to the variables of a list
abbrev pub taken : (Var → Option Term) → List Var → Map
taken h [] = fin.empty
taken h (v ∷ vs) = fin.insert (taken h vs) v (image_term h (free v))

-- an image of c with the atom on the right and one of d with it on the left have this resolvent
pub record BySteps (c d r : Sequent) : Type 0 where
  pub first : Map
  pub second : Map
  pub atom : Formula
  pub on_right : set.has (image_sequent (fin.get first) c).right atom ≡ true
  pub on_left : set.has (image_sequent (fin.get second) d).left atom ≡ true
  pub is : r ≡ resolvent (image_sequent (fin.get first) c) (image_sequent (fin.get second) d) atom

-- a clause that steps derive from those of a list: one of these, an image under a finite map, or a resolvent on an atom that is there
pub data IsDerived (cs : List Sequent) : Sequent → Type 0 where
  by_input : (c : Sequent) → Contains cs c → IsDerived cs c
  by_image : (m : Map) (c : Sequent) → IsDerived cs c → IsDerived cs (image_sequent (fin.get m) c)
  by_resolution : (p n : Sequent) (a : Formula) → IsDerived cs p → IsDerived cs n → set.has p.right a ≡ true → set.has n.left a ≡ true → IsDerived cs (resolvent p n a)
