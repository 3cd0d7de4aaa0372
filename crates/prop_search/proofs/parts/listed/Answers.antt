use Rattle.std.proofs.Common.{◌++◌, append-nil, sym, ap, subst, ◌∙◌}
use Rattle.fol.specs.Order.{formula_cmp}
use Rattle.finite.specs.Finite as set
use Rattle.free_variables.proofs.RisingLists.{rising_of_strict}
use Rattle.prop_search.proofs.parts.listed.Goals as goal

pub returns-clause-rises : goal.returns-clause-rises
returns-clause-rises c =
    let items = c.loop-formula.formulas.items in
    subst (set.IsRising formula_cmp) (sym (sym (append-nil items) ∙ ap (λ rest. items ++ rest) (sym c.in-None.ensures.steps.0) ∙ c.loop-formula.invariant)) (rising_of_strict formula_cmp _ c.len.ensures.ordered)
