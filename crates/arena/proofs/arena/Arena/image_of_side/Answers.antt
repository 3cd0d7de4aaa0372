-- A set of whose variables the map changes none is its own image, and an image is one in a larger arena too.
use Rattle.std.proofs.Common.{sym, ◌∙◌}
use Rattle.std.specs.Prelude.{Some}
use Rattle.std.specs.FinMap as fin
use Rattle.lk_rules.specs.Formulas.{image_set}
use Rattle.arena_cells.specs.Items.{side}
use Rattle.arena_cells.proofs.Staying.{side_stays, side_there}
use Rattle.arena.proofs.Results.{map_stays, map_there}
use Rattle.arena.proofs.SideLaws.{fixed_there}
use Rattle.arena.proofs.arena.Arena.image_of_side.Goals as goal

pub returns-then-fixes_all-clause-side : goal.returns-then-fixes_all-clause-side
returns-then-fixes_all-clause-side c =
    fixed_there c.args.self.now c.side_vars.new.self c.args.map c.args.side c.in_ok-vars.vars c.side_vars.ensures.grown c.requires.map c.requires.side c.in_ok-vars.ensures.set (c.fixes_all.ensures.0 c.if-fixes_all.true)

pub note-requires-clause-result : goal.note-requires-clause-result
note-requires-clause-result c =
    let a = c.args.self.now in
    let b = c.side_vars.new.self in
    let d = c.image_of_members.new.self in
    let map = map_stays b d c.image_of_members.ensures.grown c.args.map (map_there a b c.side_vars.ensures.grown c.args.map c.requires.map) in
    let members = side_stays b d c.image_of_members.ensures.grown c.args.side (side_there a b c.side_vars.ensures.grown c.args.side c.requires.side) in
    c.in_ok-number.ensures.side ∙ λ i. Some (side (image_set (fin.get (sym map i)) (sym members i)))
