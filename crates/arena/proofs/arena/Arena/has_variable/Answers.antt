-- A variable whose number has a place in the list is in the set.
use Rattle.std.proofs.Common.{is_ok, sym, ap, ◌∙◌}
use Rattle.fol.specs.OrderLaws.{var_total}
use Rattle.fol.proofs.OrderTies.{var_ties}
use Rattle.finite.specs.Finite as set
use Rattle.arena_cells.specs.Standing.{variable_at, IsVariableAt}
use Rattle.arena_cells.proofs.Sets.{has_number}
use Rattle.arena_cells.proofs.OneKey.{one_variable}
use Rattle.arena.proofs.arena.Arena.has_variable.Goals as goal

pub returns : goal.returns
returns c =
    c.is_ok.ensures.value ∙ ap is_ok c.search.ensures
    ∙ has_number var_total var_ties (variable_at c.args.self.now) (IsVariableAt c.args.self.now) (one_variable c.args.self.now c.known.ensures) c.args.variable c.variable_numbers.result.now
    c.variable_numbers.ensures.rising.rises c.variable_numbers.ensures.rising.members c.requires.variable
    ∙ ap (λ s. set.has s (variable_at c.args.self.now c.args.variable)) (sym c.variable_numbers.ensures.shown)
