-- The sides with the formulas that are added are those of the list with the trees.
use Rattle.std.proofs.Common.{◌≡◌, Option, Some, sym, ap, subst, ◌∙◌}
use Rattle.std.specs.Prelude.{IfSome}
use Rattle.lk_rules.specs.declared.sequent.Sequent.{Sequent}
use Rattle.arena_cells.specs.Standing.{HasSequent}
use Rattle.building_laws.specs.Lists.{conclusion}
use Rattle.arena_building.specs.Building.{IsAnswered}
use Rattle.arena_building.specs.Dividing.{items_of}
use Rattle.arena_building.specs.Numbered.{trees}
use Rattle.arena_building.specs.Putting.{put}
use Rattle.arena_building.specs.Sides.{sides_at, added_to, HasSides}
use Rattle.arena_building.specs.declared.sides.Sides.{Sides}
use Rattle.arena_building.proofs.Sequents.{conclusion_put}
use Rattle.arena_building.proofs.SideNumbers.{sides_are}
use Rattle.arena_building.proofs.building.conclusion_with.Goals as goal

pub returns-clause-sequent : goal.returns-clause-sequent
returns-clause-sequent c =
    let rest = c.args.rest.now in
    let l = trees rest.list.items in
    let ps = trees (items_of c.args.added.now) in
    let b = c.put_sequent.new.self in
    let n = c.in_ok-put_sequent.field-0 in
    let has = subst (λ (o : Option Sides). IfSome o (λ s. HasSides c.args.arena.now s (conclusion l))) c.in-Some.is c.requires.sides in
    let shown : sides_at c.with_added.new.arena c.in_ok-sides.sides ≡ conclusion (put l rest.place ps) =
    sides_are _ _ _ c.in_ok-sides.ensures.sides
    ∙ (ap (λ (e : Sequent). added_to e ps) (sides_are c.args.arena.now c.in-Some.sides (conclusion l) has)
    ∙ sym (conclusion_put l rest.place ps)) in
    subst (λ (o : Option Sides). IsAnswered (λ x k. HasSequent b k (conclusion (put l rest.place ps))) o (Some n)) (sym c.in-Some.is)
    (subst (λ (e : Sequent). HasSequent b n e) shown c.in_ok-put_sequent.ensures.sequent)
