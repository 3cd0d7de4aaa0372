-- The set of a set's listing is that set.
use Rattle.std.proofs.Common.{ℕ, ap, ◌∙◌}
use Rattle.std.specs.Prelude.{Some}
use Rattle.finite.specs.Finite as set
use Rattle.lk_rules.specs.Formulas.{FormulaSet}
use Rattle.arena_cells.specs.Items.{side}
use Rattle.arena_cells.specs.Standing.{HasSide}
use Rattle.arena.proofs.SideLaws.{listed_set}
use Rattle.arena_cells.proofs.Reading.{if_ok}
use Rattle.arena.proofs.arena.Arena.import_side.Goals as goal

pub returns-clause-side : goal.returns-clause-side
returns-clause-side c =
    let shown = ap set.of_list (c.in_ok-numbers.ensures.formulas ∙ c.as_slice.ensures.listing) ∙ listed_set c.args.formulas.now in
    if_ok c.put_side.result _ (λ (n : ℕ). HasSide c.put_side.new.self n c.args.formulas.now) (λ n s. s ∙ ap (λ (v : FormulaSet). Some (side v)) shown) c.put_side.ensures.side
