-- The set of the unfolded formulas.
use Rattle.std.proofs.Common.{ℕ, ap, ◌∙◌}
use Rattle.std.specs.Prelude.{Some}
use Rattle.lk_rules.specs.Formulas.{FormulaSet}
use Rattle.arena_cells.specs.Items.{side}
use Rattle.arena_cells.specs.Standing.{HasSide, side_at}
use Rattle.arena_cells.proofs.Reading.{if_ok}
use Rattle.def_laws.specs.Flat.{flat_set}
use Rattle.arena_flat.proofs.Growth.{flat_stays, on_ok}
use Rattle.arena_flat.proofs.SideSets.{side_shown}
use Rattle.arena_flat.proofs.sequents.flatten_members.Goals as goal

pub returns-clause-side : goal.returns-clause-side
returns-clause-side c =
    let a = c.args.from.now in
    let b = c.flatten_formulas.new.to in
    if_ok c.put_side.result _ (λ (n : ℕ). HasSide c.put_side.new.self n (flat_set (side_at a c.args.side)))
    (λ n h. h ∙ ap (λ (s : FormulaSet). Some (side s)) (side_shown a b (side_at a c.args.side) c.side_numbers.result.now c.in_ok-formulas.formulas.items c.side_numbers.ensures.shown c.in_ok-formulas.ensures.formulas))
    c.put_side.ensures.side

pub returns-clause-flattened : goal.returns-clause-flattened
returns-clause-flattened c =
    on_ok c.put_side.result (flat_stays c.args.from.now c.flatten_formulas.new.to c.put_side.new.self c.flatten_formulas.new.flattened c.put_side.ensures.grown c.in_ok-formulas.ensures.flattened)
