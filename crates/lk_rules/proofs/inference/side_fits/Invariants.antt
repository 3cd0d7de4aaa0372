-- Each formula so far fits.
use Rattle.std.proofs.Common.{◌≡◌, ◌||◌, drop}
use Rattle.std.specs.List.{list_all, list_any}
use Rattle.std.specs.Ordering.{eq_by_cmp}
use Rattle.fol.specs.Syntax.{Formula}
use Rattle.fol.specs.Order.{formula_cmp}
use Rattle.finite.specs.Finite as set
use Rattle.lk_rules.specs.Rules.{aux}
use Rattle.lk_rules.proofs.inference.side_fits.Given as goal

abbrev pub invariant-loop-formula : goal.invariant-loop-formula
invariant-loop-formula l =
    let test = λ (g : Formula). set.has l.end g || list_any (eq_by_cmp formula_cmp g) (aux l.rule l.premise l.side) in
    list_all test l.formula-items ≡ list_all test (drop l.formula-index l.formula-items)
