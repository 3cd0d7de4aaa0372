-- The numbers of both sets show the union.
use Rattle.std.proofs.Common.{ℕ, ◌++◌, sym, ap, ◌∙◌}
use Rattle.std.specs.Prelude.{Some}
use Rattle.fol.specs.OrderLaws.{formula_total}
use Rattle.fol.proofs.OrderTies.{formula_ties}
use Rattle.free_variables.specs.Union.{union_of}
use Rattle.arena_cells.specs.Items.{side}
use Rattle.arena_cells.specs.Standing.{formula_at, IsFormulaAt, side_at, HasSide}
use Rattle.arena.proofs.SetLaws.{All-alike, All-append}
use Rattle.arena.proofs.Shown.{union_shown}
use Rattle.arena_cells.proofs.Reading.{if_ok}
use Rattle.arena.proofs.arena.Arena.union_sides.Goals as goal

pub put-requires : goal.put-requires
put-requires c = record {
  rises = c.in_ok-numbers.ensures.rises;
  members =
      All-alike (IsFormulaAt c.args.self.now) c.in_ok-numbers.numbers (c.side_numbers.result.now ++ c.side_numbers-2.result.now) c.in_ok-numbers.ensures.members
      (All-append (IsFormulaAt c.args.self.now) c.side_numbers.result.now c.side_numbers-2.result.now c.side_numbers.ensures.rising.members c.side_numbers-2.ensures.rising.members);
}

pub returns-clause-union : goal.returns-clause-union
returns-clause-union c =
    let shown = union_shown formula_total formula_ties (formula_at c.args.self.now) c.side_numbers.result.now c.side_numbers-2.result.now c.in_ok-numbers.numbers c.in_ok-numbers.ensures.members
    ∙ (λ i. union_of (sym c.side_numbers.ensures.shown i) (sym c.side_numbers-2.ensures.shown i)) in
    if_ok c.put.result _ (λ (n : ℕ). HasSide c.put.new.self n (union_of (side_at c.args.self.now c.args.first) (side_at c.args.self.now c.args.second)))
    (λ n s. s ∙ ap (λ v. Some (side v)) shown) c.put.ensures.stands
