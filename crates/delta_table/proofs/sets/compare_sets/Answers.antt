-- Sets have as many terms as numbers.
use Rattle.std.proofs.Common.{length, sym, ap, ◌∙◌}
use Rattle.std.specs.Ordering.{nat_cmp, ordering_then}
use Rattle.std.specs.Cmp.Lexicographic.{slice_cmp}
use Rattle.fol.specs.Order.{term_cmp}
use Rattle.finite.specs.Finite as set
use Rattle.numbered_terms.specs.Numbered.{set_at}
use Rattle.numbered_terms.proofs.TermSets.{set_size}
use Rattle.delta_table.proofs.CostSteps.{then_unequal}
use Rattle.delta_table.proofs.sets.compare_sets.Goals as goal

pub returns-in_default : goal.returns-in_default
returns-in_default c =
    let a = c.args.cells.now in
    let ns = c.args.first.now in
    let ms = c.args.second.now in
    let lists = slice_cmp term_cmp (set.listing (set_at a ns)) (set.listing (set_at a ms)) in
    let first = ap length c.as_slice.ensures.numbers ∙ sym (set_size a c.known.ensures ns c.requires.first) in
    let second = ap length c.as_slice-2.ensures.numbers ∙ sym (set_size a c.known.ensures ms c.requires.second) in
    then_unequal c.cmp.result lists c.in_default.not-Equal
    ∙ ap (λ o. ordering_then o lists) (c.cmp.ensures ∙ λ i. nat_cmp (first i) (second i))
