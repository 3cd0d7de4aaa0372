-- The tuples of the next item have their numbers.
use Rattle.std.proofs.Common.{◌≡◌, ◌+◌, ◌∷◌, [], ◌++◌, take, sym, ap, subst, ◌∙◌, arith}
use Rattle.std.proofs.lemmas.List.{take_more}
use Rattle.numbered_terms.specs.Numbered.{AreTuples}
use Rattle.delta_table.specs.Numbering.{AreItemNumbers}
use Rattle.delta_table.proofs.NumberRows.{item_more}
use Rattle.delta_table.proofs.numbering.number_items.Goals as goal

pub loop-item-preserved : goal.loop-item-preserved
loop-item-preserved c =
    let before = c.loop-item.cells in
    let after = c.number_tuples.new.cells in
    let k = c.loop-item.item-index in
    let items = c.args.items.now in
    let i = c.item-item.result in
    let next : take (k + 1) items ≡ take k items ++ i ∷ [] = take_more items k i (omega arith) ∙ ap (λ j. take k items ++ j ∷ []) (sym c.item-item.is) in
    let ns = c.in_ok-numbers.numbers.items in
    let pushed : c.push.new.self.items ≡ c.loop-item.lists.items ++ ns ∷ [] = c.in_ok-push.ensures.items ∙ ap (λ l. c.loop-item.lists.items ++ l ∷ []) c.in_ok-from_vec.ensures in
    subst (λ nss. AreItemNumbers after nss (take (k + 1) items)) (sym pushed)
    (subst (AreItemNumbers after (c.loop-item.lists.items ++ ns ∷ [])) (sym next)
    (item_more before after c.in_ok-numbers.ensures.grown c.loop-item.lists.items (take k items) ns i c.loop-item.invariant (subst (AreTuples after ns) (c.as_slice.ensures.tuples ∙ c.tuples.ensures.tuples) c.in_ok-numbers.ensures.tuples)))
