-- The numbers but for that of the variable show the set without it.
use Rattle.std.proofs.Common.{◌≡◌, ℕ, not, ◌&&◌, sym, ap, ◌∙◌}
use Rattle.std.specs.Ordering.{eq_by_cmp}
use Rattle.fol.specs.Order.{var_cmp}
use Rattle.fol.specs.OrderLaws.{var_total}
use Rattle.fol.proofs.OrderTies.{var_ties}
use Rattle.finite.specs.Finite as set
use Rattle.arena_cells.specs.Standing.{variable_at, IsVariableAt, variables_at}
use Rattle.arena.proofs.SetLaws.{All-fewer}
use Rattle.arena.proofs.Shown.{without_shown, fewer}
use Rattle.arena_cells.proofs.OneKey.{one_variable}
use Rattle.arena_cells.proofs.Staying.{are_variables}
use Rattle.arena_cells.proofs.Reading.{if_ok}
use Rattle.arena.proofs.arena.Arena.without_variable.Goals as goal

pub put-requires : goal.put-requires
put-requires c = record {
  rises = c.in_ok-numbers.ensures.rises;
  members =
      All-fewer (IsVariableAt c.args.self.now) c.in_ok-numbers.numbers c.variable_numbers.result.now
      (fewer var_total var_ties (variable_at c.args.self.now) (IsVariableAt c.args.self.now) (one_variable c.args.self.now c.known.ensures) c.args.variable c.variable_numbers.result.now c.in_ok-numbers.numbers c.in_ok-numbers.ensures.members)
      c.variable_numbers.ensures.rising.members;
}

pub returns-clause-members : goal.returns-clause-members
returns-clause-members c v =
    if_ok c.put.result _ (λ (n : ℕ). set.has (variables_at c.put.new.self n) v ≡ (not (eq_by_cmp var_cmp v (variable_at c.args.self.now c.args.variable)) && set.has (variables_at c.args.self.now c.args.number) v))
    (λ n s.
    ap (λ x. set.has x v) (are_variables c.put.new.self n _ s)
    ∙ without_shown var_total var_ties (variable_at c.args.self.now) (IsVariableAt c.args.self.now) (one_variable c.args.self.now c.known.ensures) c.args.variable c.variable_numbers.result.now c.in_ok-numbers.numbers
    c.requires.variable c.variable_numbers.ensures.rising.members c.in_ok-numbers.ensures.members v
    ∙ ap (λ x. not (eq_by_cmp var_cmp v (variable_at c.args.self.now c.args.variable)) && set.has x v) (sym c.variable_numbers.ensures.shown)) c.put.ensures.stands
