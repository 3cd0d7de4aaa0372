-- The members of a set are the variables at its numbers.
use Rattle.std.proofs.Common.{ℕ, ◌||◌, List, map as each, sym, ap, ◌∙◌}
use Rattle.std.specs.List.{list_any}
use Rattle.std.specs.Ordering.{eq_by_cmp}
use Rattle.fol.specs.Order.{var_cmp}
use Rattle.fol.specs.OrderLaws.{var_total}
use Rattle.finite.specs.Finite as set
use Rattle.finite.proofs.Finite.{has-empty, has-adds_each}
use Rattle.arena_cells.specs.Standing.{variable_at}
use Rattle.arena_cells.proofs.Reading.{if_ok}
use Rattle.arena_refutations.proofs.proving.composed_for.Goals as goal

pub returns-clause-same : goal.returns-clause-same
returns-clause-same c =
    let a = c.args.arena.now in
    let numbers = c.variable_numbers.result.now in
    if_ok c.composed.result _ _
    (λ n h v e. h v (ap (λ (ns : List ℕ). list_any (eq_by_cmp var_cmp v) (each (variable_at a) ns)) (c.deref.ensures.value ∙ c.in_ok-vars.ensures.items)
    ∙ sym (ap (λ s. set.has s v) c.variable_numbers.ensures.shown
    ∙ has-adds_each var_total set.empty (each (variable_at a) numbers) v
    ∙ ap (λ b. b || list_any (eq_by_cmp var_cmp v) (each (variable_at a) numbers)) (has-empty var_cmp v)) ∙ e))
    c.composed.ensures.same
