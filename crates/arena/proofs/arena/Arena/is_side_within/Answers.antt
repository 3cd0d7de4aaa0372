-- A set is within itself, and within another where its list is.
use Rattle.std.proofs.Common.{ℕ, sym, ap, ◌∙◌}
use Rattle.std.specs.Cmp.{unsigned_Decides}
use Rattle.fol.specs.OrderLaws.{formula_total}
use Rattle.fol.proofs.OrderTies.{formula_ties}
use Rattle.finite.specs.Finite as set
use Rattle.arena_cells.specs.Standing.{formula_at, side_at, IsFormulaAt}
use Rattle.arena.proofs.Shown.{same_subset, subset_shown}
use Rattle.arena_cells.proofs.OneKey.{one_formula}
use Rattle.arena.proofs.arena.Arena.is_side_within.Goals as goal

pub returns-then-first-second : goal.returns-then-first-second
returns-then-first-second c =
    (unsigned_Decides c.args.first c.args.second).1 c.if-first-second.true
    ∙ sym (same_subset formula_total _ _ (ap (λ (n : ℕ). side_at c.args.self.now n) c.if-first-second.true))

pub returns-else-first-second : goal.returns-else-first-second
returns-else-first-second c =
    c.is_within.ensures
    ∙ subset_shown formula_total formula_ties (formula_at c.args.self.now) (IsFormulaAt c.args.self.now) (one_formula c.args.self.now c.known.ensures) c.side_numbers.result.now c.side_numbers-else-first-second.result.now
    c.side_numbers.ensures.rising.rises c.side_numbers-else-first-second.ensures.rising.rises c.side_numbers.ensures.rising.members c.side_numbers-else-first-second.ensures.rising.members
    ∙ (λ i. set.subset (sym c.side_numbers.ensures.shown i) (sym c.side_numbers-else-first-second.ensures.shown i))
