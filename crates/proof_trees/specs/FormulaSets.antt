-- Atoms, and sets of formulas without one of them.
use Rattle.std.specs.Prelude.{Bool, true, false, not as negated, filter}
use Rattle.std.specs.Ordering.{eq_by_cmp}
use Rattle.fol.specs.Syntax.{Formula, atom}
use Rattle.fol.specs.Order.{formula_cmp}
use Rattle.finite.specs.Finite as set
use Rattle.lk_rules.specs.Formulas.{FormulaSet}

abbrev pub is_atom : Formula → Bool
is_atom (atom s ts) = true
is_atom f = false

-- the set without one formula
abbrev pub without : FormulaSet → Formula → FormulaSet
without s a = set.of_list (filter (λ f. negated (eq_by_cmp formula_cmp a f)) (set.listing s))
