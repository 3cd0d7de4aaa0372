-- The numbers but for that of the formula show the set without it.
use Rattle.std.proofs.Common.{◌≡◌, ℕ, not, ◌&&◌, sym, ap, ◌∙◌}
use Rattle.std.specs.Ordering.{eq_by_cmp}
use Rattle.fol.specs.Order.{formula_cmp}
use Rattle.fol.specs.OrderLaws.{formula_total}
use Rattle.fol.proofs.OrderTies.{formula_ties}
use Rattle.finite.specs.Finite as set
use Rattle.arena_cells.specs.Standing.{formula_at, IsFormulaAt, side_at}
use Rattle.arena_cells.proofs.Staying.{is_side}
use Rattle.arena.proofs.SetLaws.{All-fewer}
use Rattle.arena.proofs.Shown.{without_shown, fewer}
use Rattle.arena_cells.proofs.OneKey.{one_formula}
use Rattle.arena_cells.proofs.Reading.{if_ok}
use Rattle.arena.proofs.arena.Arena.side_without.Goals as goal

pub put-requires : goal.put-requires
put-requires c = record {
  rises = c.in_ok-numbers.ensures.rises;
  members =
      All-fewer (IsFormulaAt c.args.self.now) c.in_ok-numbers.numbers c.side_numbers.result.now
      (fewer formula_total formula_ties (formula_at c.args.self.now) (IsFormulaAt c.args.self.now) (one_formula c.args.self.now c.known.ensures) c.args.formula c.side_numbers.result.now c.in_ok-numbers.numbers c.in_ok-numbers.ensures.members)
      c.side_numbers.ensures.rising.members;
}

pub returns-clause-members : goal.returns-clause-members
returns-clause-members c f =
    if_ok c.put.result _ (λ (n : ℕ). set.has (side_at c.put.new.self n) f ≡ (not (eq_by_cmp formula_cmp f (formula_at c.args.self.now c.args.formula)) && set.has (side_at c.args.self.now c.args.side) f))
    (λ n s.
    ap (λ x. set.has x f) (is_side c.put.new.self n _ s)
    ∙ without_shown formula_total formula_ties (formula_at c.args.self.now) (IsFormulaAt c.args.self.now) (one_formula c.args.self.now c.known.ensures) c.args.formula c.side_numbers.result.now c.in_ok-numbers.numbers
    c.requires.formula c.side_numbers.ensures.rising.members c.in_ok-numbers.ensures.members f
    ∙ ap (λ x. not (eq_by_cmp formula_cmp f (formula_at c.args.self.now c.args.formula)) && set.has x f) (sym c.side_numbers.ensures.shown)) c.put.ensures.stands
