-- The formula stays where another tree has it on the side.
use Rattle.std.proofs.Common.{◌≡◌, true, false, sym, subst, ◌∙◌}
use Rattle.lk_rules.specs.declared.sequent.Side.{Side}
use Rattle.lk_rules.specs.declared.sequent.Sequent.{Sequent}
use Rattle.lk_rules.specs.Sequents.{side_of, adds_to}
use Rattle.finite.specs.Finite as set
use Rattle.arena_cells.specs.Standing.{formula_at}
use Rattle.building_laws.specs.Lists.{conclusion}
use Rattle.building_laws.proofs.Conclusions.{has-conclusion}
use Rattle.arena_building.specs.Numbered.{trees}
use Rattle.arena_building.specs.Sides.{HasSides}
use Rattle.arena_building.proofs.Numbers.{stands_as}
use Rattle.arena_building.proofs.Removals.{added_again, left_taken, right_taken}
use Rattle.arena_building.proofs.sides.without_tree.Goals as goal

pub returns-then-stands-clause-sides : goal.returns-then-stands-clause-sides
returns-then-stands-clause-sides c =
    let a = c.args.arena.now in
    let l = c.args.list.now in
    let s = c.args.side in
    let f = formula_at a c.args.formula in
    let there : set.has (side_of (conclusion (trees l)) s) f ≡ true =
    has-conclusion (trees l) s f ∙ (sym (stands_as a s c.args.formula l c.known.ensures c.requires.formula c.requires.numbers) ∙ sym c.if-stands.ensures) in
    subst (λ (e : Sequent). HasSides a c.args.sides e) (added_again (conclusion (trees l)) s f there) c.requires.sides

pub returns-in_ok-left-in-Left-clause-sides : goal.returns-in_ok-left-in-Left-clause-sides
returns-in_ok-left-in-Left-clause-sides c =
    let a = c.args.arena.now in
    let l = c.args.list.now in
    let f = formula_at a c.args.formula in
    let gone : set.has (side_of (conclusion (trees l)) c.args.side) f ≡ false =
    has-conclusion (trees l) c.args.side f ∙ (sym (stands_as a c.args.side c.args.formula l c.known.ensures c.requires.formula c.requires.numbers) ∙ sym c.if-stands.ensures) in
    left_taken a c.side_without.new.self c.args.sides c.in_ok-left-in-Left.left (conclusion (trees l)) f c.side_without.ensures.grown c.in_ok-left-in-Left.ensures.side
    (subst (λ (s : Side). HasSides a c.args.sides (adds_to (conclusion (trees l)) s f)) c.in-Left.is c.requires.sides)
    c.in_ok-left-in-Left.ensures.members
    (subst (λ (s : Side). set.has (side_of (conclusion (trees l)) s) f ≡ false) c.in-Left.is gone)

pub returns-in_ok-right-in-Right-clause-sides : goal.returns-in_ok-right-in-Right-clause-sides
returns-in_ok-right-in-Right-clause-sides c =
    let a = c.args.arena.now in
    let l = c.args.list.now in
    let f = formula_at a c.args.formula in
    let gone : set.has (side_of (conclusion (trees l)) c.args.side) f ≡ false =
    has-conclusion (trees l) c.args.side f ∙ (sym (stands_as a c.args.side c.args.formula l c.known.ensures c.requires.formula c.requires.numbers) ∙ sym c.if-stands.ensures) in
    right_taken a c.side_without-in-Right.new.self c.args.sides c.in_ok-right-in-Right.right (conclusion (trees l)) f c.side_without-in-Right.ensures.grown c.in_ok-right-in-Right.ensures.side
    (subst (λ (s : Side). HasSides a c.args.sides (adds_to (conclusion (trees l)) s f)) c.in-Right.is c.requires.sides)
    c.in_ok-right-in-Right.ensures.members
    (subst (λ (s : Side). set.has (side_of (conclusion (trees l)) s) f ≡ false) c.in-Right.is gone)
