-- A formula whose number has a place in the list is in the set.
use Rattle.std.proofs.Common.{is_ok, sym, ap, ◌∙◌}
use Rattle.fol.specs.OrderLaws.{formula_total}
use Rattle.fol.proofs.OrderTies.{formula_ties}
use Rattle.finite.specs.Finite as set
use Rattle.arena_cells.specs.Standing.{formula_at, IsFormulaAt}
use Rattle.arena_cells.proofs.Sets.{has_number}
use Rattle.arena_cells.proofs.OneKey.{one_formula}
use Rattle.arena.proofs.arena.Arena.side_has.Goals as goal

pub returns : goal.returns
returns c =
    c.is_ok.ensures.value ∙ ap is_ok c.search.ensures
    ∙ has_number formula_total formula_ties (formula_at c.args.self.now) (IsFormulaAt c.args.self.now) (one_formula c.args.self.now c.known.ensures) c.args.formula c.side_numbers.result.now
    c.side_numbers.ensures.rising.rises c.side_numbers.ensures.rising.members c.requires.formula
    ∙ ap (λ s. set.has s (formula_at c.args.self.now c.args.formula)) (sym c.side_numbers.ensures.shown)
