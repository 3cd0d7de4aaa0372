-- The sequent of the images of the sides.
use Rattle.std.proofs.Common.{ℕ, ap, ◌∙◌}
use Rattle.std.specs.Prelude.{Some}
use Rattle.std.specs.FinMap as fin
use Rattle.lk_rules.specs.Formulas.{FormulaSet, image_set}
use Rattle.lk_rules.specs.Sequents.{image_sequent}
use Rattle.arena_cells.specs.Items.{sequent}
use Rattle.arena_cells.specs.Standing.{HasSequent, map_at, sequent_at}
use Rattle.arena_cells.proofs.Staying.{is_side}
use Rattle.arena.proofs.Results.{map_stays}
use Rattle.arena_cells.proofs.Reading.{if_ok}
use Rattle.arena.proofs.arena.Arena.image_of_sequent.Goals as goal

pub returns-clause-sequent : goal.returns-clause-sequent
returns-clause-sequent c =
    let s = c.image_of_side.new.self in
    let t = c.image_of_side-2.new.self in
    let first = is_side t c.in_ok-left.left _ (c.image_of_side-2.ensures.grown c.in_ok-left.left _ c.in_ok-left.ensures.side)
    ∙ ap (λ (x : FormulaSet). image_set (fin.get (map_at c.args.self.now c.args.map)) x) (is_side c.args.self.now c.sides-left.result.0 _ c.sides-left.ensures.left) in
    let second = is_side t c.in_ok-right.right _ c.in_ok-right.ensures.side
    ∙ (λ i. image_set (fin.get (map_stays c.args.self.now s c.image_of_side.ensures.grown c.args.map c.requires.map i)) (is_side s c.sides-left.result.1 _ (c.image_of_side.ensures.grown c.sides-left.result.1 _ c.sides-left.ensures.right) i)) in
    if_ok c.put_sequent.result _ (λ (n : ℕ). HasSequent c.put_sequent.new.self n (image_sequent (fin.get (map_at c.args.self.now c.args.map)) (sequent_at c.args.self.now c.args.sequent)))
    (λ n h. h ∙ (λ i. Some (sequent (record { left = first i; right = second i })))) c.put_sequent.ensures.sequent
