-- The choice of printed variables. A quantifier with d quantifiers around it is printed with the numbered variable that has exactly d
-- numbered variables below it that aren't free in the printed formula, and isn't free there itself.
use Rattle.std.specs.Prelude.{ℕ, ◌+◌, nat_le, List, [], ◌∷◌, if◌then◌else◌}
use Rattle.std.specs.List.{filter_map}
use Rattle.std.specs.Prelude.{Option, Some, None}
use Rattle.fol.specs.declared.symbols.Var.{Var}
use Rattle.fol.specs.declared.symbols.Var.TheVariants.{Word, Num}
use Rattle.finite.specs.Finite as set
use Rattle.free_variables.specs.Sets.{VarSet}

-- the number of a numbered variable
abbrev pub number_of : Var → Option ℕ
number_of (Word x) = None
number_of (Num n) = Some n

-- the numbers of the numbered variables of a set, rising
abbrev pub numbers_of : VarSet → List ℕ
numbers_of vs = filter_map number_of (set.listing vs)

-- the number that has d numbers below it outside a rising list, and is outside: each number of the list that is met on the way
-- moves it on by one
abbrev pub outside : List ℕ → ℕ → ℕ
outside [] d = d
outside (n ∷ ns) d = if nat_le n d then outside ns (d + 1) else d
