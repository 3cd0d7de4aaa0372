-- The numbers with that of the formula show the set with it.
use Rattle.std.proofs.Common.{ℕ, ◌∷◌, sym, ap, ◌∙◌}
use Rattle.std.specs.Prelude.{Some}
use Rattle.fol.specs.OrderLaws.{formula_total}
use Rattle.fol.proofs.OrderTies.{formula_ties}
use Rattle.finite.specs.Finite as set
use Rattle.arena_cells.specs.Items.{side}
use Rattle.arena_cells.specs.Standing.{formula_at, IsFormulaAt, side_at, HasSide}
use Rattle.arena.proofs.SetLaws.{All-alike, All-cons}
use Rattle.arena.proofs.Shown.{with_shown}
use Rattle.arena_cells.proofs.Reading.{if_ok}
use Rattle.arena.proofs.arena.Arena.side_with.Goals as goal

pub put-requires : goal.put-requires
put-requires c = record {
  rises = c.in_ok-numbers.ensures.rises;
  members =
      All-alike (IsFormulaAt c.args.self.now) c.in_ok-numbers.numbers (c.args.formula ∷ c.side_numbers.result.now) c.in_ok-numbers.ensures.members
      (All-cons (IsFormulaAt c.args.self.now) c.args.formula c.side_numbers.result.now c.requires.formula c.side_numbers.ensures.rising.members);
}

pub returns-clause-side : goal.returns-clause-side
returns-clause-side c =
    let shown = with_shown formula_total formula_ties (formula_at c.args.self.now) c.args.formula c.side_numbers.result.now c.in_ok-numbers.numbers c.in_ok-numbers.ensures.members
    ∙ ap (λ s. set.adds s (formula_at c.args.self.now c.args.formula)) (sym c.side_numbers.ensures.shown) in
    if_ok c.put.result _ (λ (n : ℕ). HasSide c.put.new.self n (set.adds (side_at c.args.self.now c.args.side) (formula_at c.args.self.now c.args.formula)))
    (λ n s. s ∙ ap (λ v. Some (side v)) shown) c.put.ensures.stands
