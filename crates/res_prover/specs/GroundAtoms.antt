-- Marks of atoms without variables, of which two have a unifier only where they are equal.
--     some_open      whether one of several atoms has a variable
--     whole_marks      the marks of several atoms, of each as a whole
--     AreGroundMarksOf      both of a list
--     AreApart      the marks that show that no atom of one list has a unifier with one of another
use Rattle.std.specs.Prelude.{◌≡◌, ℕ, Bool, false, List, [], ◌∷◌, bit_or, bit_and}
use Rattle.std.specs.List.{list_any}
use Rattle.fol.specs.Syntax.{Formula}
use Rattle.fol.specs.Facts.{is_open, formula_fingerprint}
use Rattle.res_prover.specs.declared.ground_atoms.GroundMarks.{GroundMarks}
use Rattle.res_prover.specs.Marks.{bit_of}

abbrev pub some_open : List Formula → Bool
some_open fs = list_any is_open fs

abbrev pub whole_marks : List Formula → ℕ
whole_marks [] = 0
whole_marks (f ∷ fs) = bit_or (bit_of (formula_fingerprint f)) (whole_marks fs)

pub record AreGroundMarksOf (fs : List Formula) (m : GroundMarks) : Type 0 where
  pub some_open : m.has_free ≡ some_open fs
  pub wholes : m.wholes ≡ whole_marks fs

-- no atom has a variable, and none of the one list is in the other
pub record AreApart (m n : GroundMarks) : Type 0 where
  pub first : m.has_free ≡ false
  pub second : n.has_free ≡ false
  pub wholes : bit_and m.wholes n.wholes ≡ 0
