-- The closed formulas and the images of the others are the image of the set.
use Rattle.std.proofs.Common.{◌≡◌, ℕ, List, sym, ap, ◌∙◌, subst}
use Rattle.std.specs.Prelude.{Some}
use Rattle.std.specs.FinMap as fin
use Rattle.std.specs.List.{All}
use Rattle.std.specs.Ordering.{nat_cmp}
use Rattle.std.proofs.lemmas.List.Elements.{All-filter}
use Rattle.finite.specs.Finite.{IsRising}
use Rattle.lk_rules.specs.Formulas.{FormulaSet, image_set}
use Rattle.arena_cells.specs.Items.{side}
use Rattle.arena_cells.specs.Standing.{map_at, side_at, HasSide, IsFormulaAt}
use Rattle.arena_cells.specs.Meaning.{formulas_of}
use Rattle.arena_cells.proofs.Reading.{if_ok}
use Rattle.arena.specs.Lists.{is_open_at, is_closed_at}
use Rattle.arena.proofs.ClosedLaws.{filter_rises, parted_there, parted_image}
use Rattle.arena.proofs.arena.Arena.image_of_members.Goals as goal

pub image_each-requires-clause-formulas : goal.image_each-requires-clause-formulas
image_each-requires-clause-formulas c =
    subst (All (IsFormulaAt c.args.self.now)) (sym c.in_ok-closed.ensures.others)
    (All-filter (is_open_at c.args.self.now) (IsFormulaAt c.args.self.now) c.side_numbers.result.now c.side_numbers.ensures.rising.members)

pub joined_with-requires : goal.joined_with-requires
joined_with-requires c =
    subst (λ (ns : List ℕ). IsRising nat_cmp ns) (sym c.in_ok-closed.ensures.closed)
    (filter_rises (is_closed_at c.args.self.now) c.side_numbers.result.now c.side_numbers.ensures.rising.rises)

pub put-requires : goal.put-requires
put-requires c = record {
  rises = c.in_ok-numbers.ensures.rises;
  members =
      parted_there c.args.self.now c.image_each.new.self c.image_each.ensures.grown c.side_numbers.result.now c.in_ok-closed.closed.items c.in_ok-images.images.items c.in_ok-numbers.numbers
      c.side_numbers.ensures.rising c.in_ok-closed.ensures.closed c.in_ok-numbers.ensures.members c.in_ok-images.ensures.there;
}

pub returns-clause-side : goal.returns-clause-side
returns-clause-side c =
    let shown : formulas_of c.image_each.new.self c.in_ok-numbers.numbers ≡ image_set (fin.get (map_at c.args.self.now c.args.map)) (side_at c.args.self.now c.args.side) =
    parted_image c.args.self.now c.image_each.new.self c.image_each.ensures.grown c.side_numbers.result.now c.in_ok-closed.closed.items c.in_ok-images.images.items c.in_ok-numbers.numbers
    c.side_numbers.ensures.rising c.in_ok-closed.ensures.closed c.in_ok-numbers.ensures.members (map_at c.args.self.now c.args.map) c.in_ok-closed.others.items c.in_ok-closed.ensures.others c.in_ok-images.ensures.images
    ∙ ap (λ (s : FormulaSet). image_set (fin.get (map_at c.args.self.now c.args.map)) s) (sym c.side_numbers.ensures.shown) in
    if_ok c.put.result _ (λ (n : ℕ). HasSide c.put.new.self n (image_set (fin.get (map_at c.args.self.now c.args.map)) (side_at c.args.self.now c.args.side)))
    (λ n s. s ∙ ap (λ (v : FormulaSet). Some (side v)) shown) c.put.ensures.stands
