-- Clauses, as sequents with the negative atoms on the left and the positive ones on the right, and when one clause follows from another.
--     IsClause      a sequent of atoms
--     IsTautology      a clause that always holds
--     Subsumes      some image of a clause is a part of another one
--     IsVariant, IsRenamed      a clause with its variables renamed
--     AreApart      clauses without a common variable
use Rattle.std.specs.Prelude.{◌≡◌, true, Option}
use Rattle.fol.specs.declared.symbols.Var.{Var}
use Rattle.fol.specs.Syntax.{Term, free, Formula}
use Rattle.finite.specs.Finite as set
use Rattle.substitution.specs.Image.{image_term}
use Rattle.lk_rules.specs.declared.sequent.Sequent.{Sequent}
use Rattle.lk_rules.specs.declared.sequent.Side.{Side}
use Rattle.lk_rules.specs.Sequents.{side_of, is_free_in_sequent, IsSubsequent, image_sequent}
use Rattle.proof_trees.specs.FormulaSets.{is_atom}

-- each formula on each side is an atom
abbrev pub IsClause : Sequent → Type 0
IsClause c = (side : Side) (f : Formula) → set.has (side_of c side) f ≡ true → is_atom f ≡ true

-- an atom stands on both sides
pub record IsTautology (c : Sequent) : Type 0 where
  pub atom : Formula
  pub on_left : set.has c.left atom ≡ true
  pub on_right : set.has c.right atom ≡ true

-- subsumption: a map sends each atom of c to an atom on the same side of d
pub record Subsumes (c d : Sequent) : Type 0 where
  pub map : Var → Option Term
  pub within : IsSubsequent (image_sequent map c) d

-- each is an image of the other one, so they differ in the names of variables alone
pub record IsVariant (c d : Sequent) : Type 0 where
  pub there : Var → Option Term
  pub back : Var → Option Term
  pub is : image_sequent there c ≡ d
  pub was : image_sequent back d ≡ c

-- a map sends c to d, and another one undoes it on each variable of c
pub record IsRenamed (c d : Sequent) : Type 0 where
  pub there : Var → Option Term
  pub back : Var → Option Term
  pub is : image_sequent there c ≡ d
  pub undone : (v : Var) → is_free_in_sequent v c ≡ true → image_term back (image_term there (free v)) ≡ free v

-- no variable stands in both
abbrev pub AreApart : Sequent → Sequent → Type 0
AreApart c d = (v : Var) → is_free_in_sequent v c ≡ true → is_free_in_sequent v d ≡ true → ⊥
