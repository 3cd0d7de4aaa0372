-- The key with its parts changed means what it meant, changed.
use Rattle.std.proofs.Common.{◌<◌, ℕ, sym, ◌∙◌, subst, rules}
use Rattle.arena.specs.declared.task.Change.{Change}
use Rattle.arena_cells.specs.declared.key.Key.{Key}
use Rattle.arena_cells.specs.Meaning.{HasParts}
use Rattle.arena.specs.Changes.{HasChange, FitsChange, operation_at}
use Rattle.arena.proofs.Results.{change_there, item_there}
use Rattle.arena.proofs.Changing.{one_step, two_step, two_parts, inside_there, inside_fits, stands_changed}
use Rattle.arena_cells.proofs.Reading.{if_ok}
use Rattle.arena.proofs.arena.Arena.+change.Goals as goal

pub change_parts-put-requires : goal.change_parts-put-requires
change_parts-put-requires t c =
    let step = one_step c.args.self.now c.change.new.self c.change.ensures.grown c.args.change c.inside_of-inner.result c.args.key.now c.in-One.part c.in_ok-part-in-One.part c.inside_of-inner.ensures c.requires.key.parts (sym c.walked_parts.ensures ∙ c.in-One.is) c.in_ok-part-in-One.ensures.stands in
    subst (λ (k : Key). HasParts c.change.new.self k) (sym c.in_ok-rekeyed-in-One.ensures) step.parts

pub change_parts-change-requires-in-Two-2 : goal.change_parts-change-requires-in-Two-2
change_parts-change-requires-in-Two-2 t c =
    let parts = two_parts c.args.self.now c.args.of c.args.key.now c.in-Two.first c.in-Two.second c.requires.key.parts c.requires.key.below (sym c.walked_parts.ensures ∙ c.in-Two.is) in
    let below : c.in-Two.second < c.args.of = parts.1.below in
    let has : HasChange c.args.self.now c.inside_of-inner.result =
    subst (λ (ch : Change). HasChange c.args.self.now ch) (sym c.inside_of-inner.ensures) (inside_there c.args.self.now c.args.key.now c.args.change c.requires.change) in (
      search rules,
      (
        change_there c.args.self.now c.change-in-Two.new.self c.change-in-Two.ensures.grown c.inside_of-inner.result has,
        (
          item_there c.args.self.now c.change-in-Two.new.self c.change-in-Two.ensures.grown c.in-Two.second parts.1.stands,
          subst (λ (ch : Change). FitsChange c.in-Two.second ch) (sym c.inside_of-inner.ensures) (inside_fits c.args.of c.in-Two.second c.args.key.now c.args.change c.requires.fits below),
        ),
      ),
    )

pub change_parts-put-requires-in-Two : goal.change_parts-put-requires-in-Two
change_parts-put-requires-in-Two t c =
    let e = sym c.walked_parts.ensures ∙ c.in-Two.is in
    let parts = two_parts c.args.self.now c.args.of c.args.key.now c.in-Two.first c.in-Two.second c.requires.key.parts c.requires.key.below e in
    let has : HasChange c.args.self.now c.inside_of-inner.result =
    subst (λ (ch : Change). HasChange c.args.self.now ch) (sym c.inside_of-inner.ensures) (inside_there c.args.self.now c.args.key.now c.args.change c.requires.change) in
    let step = two_step c.args.self.now c.change-in-Two.new.self c.change-in-Two-2.new.self c.change-in-Two.ensures.grown c.change-in-Two-2.ensures.grown c.args.change c.inside_of-inner.result c.args.key.now c.in-Two.first c.in-Two.second c.in_ok-first-in-Two.first c.in_ok-second-in-Two.second c.inside_of-inner.ensures has c.requires.key.parts e parts.1.stands c.in_ok-first-in-Two.ensures.stands c.in_ok-second-in-Two.ensures.stands in
    subst (λ (k : Key). HasParts c.change-in-Two-2.new.self k) (sym c.in_ok-rekeyed-in-Two.ensures) step.parts

pub change_parts-returns-in_ok-rekeyed-in-One-clause-stands : goal.change_parts-returns-in_ok-rekeyed-in-One-clause-stands
change_parts-returns-in_ok-rekeyed-in-One-clause-stands t c =
    let step = one_step c.args.self.now c.change.new.self c.change.ensures.grown c.args.change c.inside_of-inner.result c.args.key.now c.in-One.part c.in_ok-part-in-One.part c.inside_of-inner.ensures c.requires.key.parts (sym c.walked_parts.ensures ∙ c.in-One.is) c.in_ok-part-in-One.ensures.stands in
    if_ok c.put.result _ _ (λ (n : ℕ) s. stands_changed c.args.self.now c.change.new.self c.put.new.self (operation_at c.args.self.now c.args.change) c.args.key.now _ c.in_ok-rekeyed-in-One.field-0 n step c.in_ok-rekeyed-in-One.ensures s) c.put.ensures.stands

pub change_parts-returns-in_ok-rekeyed-in-One-clause-grown : goal.change_parts-returns-in_ok-rekeyed-in-One-clause-grown
change_parts-returns-in_ok-rekeyed-in-One-clause-grown t c = λ n u h. c.put.ensures.grown n u (c.change.ensures.grown n u h)

pub change_parts-returns-in_ok-rekeyed-in-Two-clause-stands : goal.change_parts-returns-in_ok-rekeyed-in-Two-clause-stands
change_parts-returns-in_ok-rekeyed-in-Two-clause-stands t c =
    let e = sym c.walked_parts.ensures ∙ c.in-Two.is in
    let parts = two_parts c.args.self.now c.args.of c.args.key.now c.in-Two.first c.in-Two.second c.requires.key.parts c.requires.key.below e in
    let has : HasChange c.args.self.now c.inside_of-inner.result =
    subst (λ (ch : Change). HasChange c.args.self.now ch) (sym c.inside_of-inner.ensures) (inside_there c.args.self.now c.args.key.now c.args.change c.requires.change) in
    let step = two_step c.args.self.now c.change-in-Two.new.self c.change-in-Two-2.new.self c.change-in-Two.ensures.grown c.change-in-Two-2.ensures.grown c.args.change c.inside_of-inner.result c.args.key.now c.in-Two.first c.in-Two.second c.in_ok-first-in-Two.first c.in_ok-second-in-Two.second c.inside_of-inner.ensures has c.requires.key.parts e parts.1.stands c.in_ok-first-in-Two.ensures.stands c.in_ok-second-in-Two.ensures.stands in
    if_ok c.put-in-Two.result _ _ (λ (n : ℕ) s. stands_changed c.args.self.now c.change-in-Two-2.new.self c.put-in-Two.new.self (operation_at c.args.self.now c.args.change) c.args.key.now _ c.in_ok-rekeyed-in-Two.field-0 n step c.in_ok-rekeyed-in-Two.ensures s) c.put-in-Two.ensures.stands

pub change_parts-returns-in_ok-rekeyed-in-Two-clause-grown : goal.change_parts-returns-in_ok-rekeyed-in-Two-clause-grown
change_parts-returns-in_ok-rekeyed-in-Two-clause-grown t c = λ n u h. c.put-in-Two.ensures.grown n u (c.change-in-Two-2.ensures.grown n u (c.change-in-Two.ensures.grown n u h))
