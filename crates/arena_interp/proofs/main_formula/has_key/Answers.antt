-- The number of the formula is among those of the side, or the formula has no number.
use Rattle.std.proofs.Common.{ℕ, refl, sym, ap, ◌∙◌}
use Rattle.std.specs.Prelude.{Some}
use Rattle.arena_cells.specs.Items.{Item}
use Rattle.arena_cells.specs.Standing.{HasFormula, formula_of}
use Rattle.arena_cells.specs.Meaning.{meaning}
use Rattle.arena_cells.proofs.Staying.{is_side}
use Rattle.arena_interp.proofs.MainFormula.{has_none}
use Rattle.arena_interp.proofs.main_formula.has_key.Goals as goal

pub returns-in-None : goal.returns-in-None
returns-in-None c =
    let a = c.args.arena.now in
    let k = c.args.key.now in
    let f = formula_of (meaning a k) in
    let absent : (n : ℕ) → ¬ HasFormula a n f = λ n h. c.in-None.ensures.absent refl n (h ∙ ap (λ (t : Item). Some t) (sym c.requires.formula)) in
    has_none a f absent _ c.side_numbers-numbers.result.now (sym (is_side a c.side-side.result _ c.side-side.ensures) ∙ c.side_numbers-numbers.ensures.shown) c.side_numbers-numbers.ensures.rising.members
