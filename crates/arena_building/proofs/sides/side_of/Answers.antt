-- The numbers of the formulas on the side.
use Rattle.std.proofs.Common.{◌≡◌, List, ◌++◌, map, append-nil, sym, ap, subst, ◌∙◌}
use Rattle.std.specs.Prelude.{IfOk}
use Rattle.std.specs.List.{All}
use Rattle.std.proofs.lemmas.List.{drop_all}
use Rattle.fol.specs.Syntax.{Formula}
use Rattle.finite.specs.Finite as set
use Rattle.arena_cells.specs.Standing.{HasSide, formula_at, IsFormulaAt}
use Rattle.arena_building.specs.Numbered.{Numbered}
use Rattle.arena_building.specs.Sides.{numbers_on}
use Rattle.arena_building.proofs.Numbers.{formulas_on, numbers_there}
use Rattle.arena_building.proofs.sides.side_of.Goals as goal

pub put_side-requires : goal.put_side-requires
put_side-requires c =
    let l = c.args.list.now in
    let ns = c.loop-placed.formulas.items in
    let all : ns ≡ numbers_on c.args.side l =
    sym (append-nil ns) ∙ (ap (λ (qs : List Numbered). ns ++ numbers_on c.args.side qs) (sym (drop_all c.loop-placed.placed-index l c.loop-placed-test.false)) ∙ c.loop-placed.invariant) in
    subst (λ ms. All (IsFormulaAt c.args.arena.now) ms) (sym all) (numbers_there c.args.arena.now c.args.side l c.requires)

pub returns-clause-side : goal.returns-clause-side
returns-clause-side c =
    let l = c.args.list.now in
    let a = c.args.arena.now in
    let ns = c.loop-placed.formulas.items in
    let all : ns ≡ numbers_on c.args.side l =
    sym (append-nil ns) ∙ (ap (λ (qs : List Numbered). ns ++ numbers_on c.args.side qs) (sym (drop_all c.loop-placed.placed-index l c.loop-placed-test.false)) ∙ c.loop-placed.invariant) in
    subst (λ (fs : List Formula). IfOk c.put_side.result (λ n. HasSide c.put_side.new.self n (set.of_list fs)))
    (ap (map (formula_at a)) all ∙ formulas_on a c.args.side l c.requires)
    c.put_side.ensures.side
