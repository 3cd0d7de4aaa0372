-- A set is within another where its list is.
use Rattle.std.proofs.Common.{sym, ◌∙◌}
use Rattle.fol.specs.OrderLaws.{var_total}
use Rattle.fol.proofs.OrderTies.{var_ties}
use Rattle.finite.specs.Finite as set
use Rattle.arena_cells.specs.Standing.{variable_at, IsVariableAt}
use Rattle.arena.proofs.Shown.{subset_shown}
use Rattle.arena_cells.proofs.OneKey.{one_variable}
use Rattle.arena.proofs.arena.Arena.are_variables_within.Goals as goal

pub returns : goal.returns
returns c =
    c.is_within.ensures
    ∙ subset_shown var_total var_ties (variable_at c.args.self.now) (IsVariableAt c.args.self.now) (one_variable c.args.self.now c.known.ensures) c.variable_numbers.result.now c.variable_numbers-2.result.now
    c.variable_numbers.ensures.rising.rises c.variable_numbers-2.ensures.rising.rises c.variable_numbers.ensures.rising.members c.variable_numbers-2.ensures.rising.members
    ∙ (λ i. set.subset (sym c.variable_numbers.ensures.shown i) (sym c.variable_numbers-2.ensures.shown i))
