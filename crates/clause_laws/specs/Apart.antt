-- Renaming apart: V0, V1, .. become V0, V2, .. in one clause and V1, V3, .. in another one.
--     first_name, second_name      the variables' new names
--     first_apart, second_apart      the maps
--     on_each      a map for each of two clauses that are apart as one map
use Rattle.std.specs.Prelude.{◌+◌, ◌*◌, if◌then◌else◌, ◌∷◌, Option, Some}
use Rattle.fol.specs.declared.symbols.Var.{Var}
use Rattle.fol.specs.declared.symbols.Var.TheVariants.{Word, Num}
use Rattle.fol.specs.Syntax.{Term, free}
use Rattle.substitution.specs.Image.{image_term}
use Rattle.lk_rules.specs.declared.sequent.Sequent.{Sequent}
use Rattle.lk_rules.specs.Sequents.{is_free_in_sequent}

-- Even numbers for the variables of the first clause, odd ones for those of the second. Words, which clauses of a search don't have, get an A
-- or a B in front.
abbrev pub first_name : Var → Var
first_name (Num n) = Num (2 * n)
first_name (Word x) = Word (65 ∷ x)

abbrev pub second_name : Var → Var
second_name (Num n) = Num (2 * n + 1)
second_name (Word x) = Word (66 ∷ x)

-- the maps from the old names to the new ones
abbrev pub first_apart : Var → Option Term
first_apart v = Some (free (first_name v))

abbrev pub second_apart : Var → Option Term
second_apart v = Some (free (second_name v))

-- what g does to the variables of c, and what h does to all others
abbrev pub on_each : Sequent → (Var → Option Term) → (Var → Option Term) → Var → Option Term
on_each c g h v = Some (if is_free_in_sequent v c then image_term g (free v) else image_term h (free v))
