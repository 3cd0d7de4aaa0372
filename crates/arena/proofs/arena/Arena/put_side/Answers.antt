-- The numbers in rising order show the same set.
use Rattle.std.proofs.Common.{ℕ, ap, ◌∙◌}
use Rattle.std.specs.Prelude.{Some}
use Rattle.fol.specs.OrderLaws.{formula_total}
use Rattle.fol.proofs.OrderTies.{formula_ties}
use Rattle.arena_cells.specs.Items.{side}
use Rattle.arena_cells.specs.Standing.{formula_at, IsFormulaAt, HasSide}
use Rattle.arena_cells.specs.Meaning.{formulas_of}
use Rattle.arena.proofs.SetLaws.{All-alike, shown_alike}
use Rattle.arena_cells.proofs.Reading.{if_ok}
use Rattle.arena.proofs.arena.Arena.put_side.Goals as goal

pub put-requires : goal.put-requires
put-requires c = record {
  rises = c.in_ok-numbers.ensures.rises;
  members = All-alike (IsFormulaAt c.args.self.now) c.in_ok-numbers.numbers c.args.formulas.items c.in_ok-numbers.ensures.members c.requires;
}

pub returns-clause-side : goal.returns-clause-side
returns-clause-side c =
    let shown = shown_alike formula_total formula_ties (formula_at c.args.self.now) c.in_ok-numbers.numbers c.args.formulas.items c.in_ok-numbers.ensures.members in
    if_ok c.put.result _ (λ (n : ℕ). HasSide c.put.new.self n (formulas_of c.args.self.now c.args.formulas.items)) (λ n s. s ∙ ap (λ v. Some (side v)) shown) c.put.ensures.stands
