-- A number that has a place in the list is there.
use Rattle.std.proofs.Common.{is_ok, ap, ◌∙◌}
use Rattle.std.specs.Ordering.{nat_cmp}
use Rattle.std.specs.Cmp.{nat_cmp_total}
use Rattle.finite.proofs.Finite.{has-of_rising}
use Rattle.finite.proofs.Places.{has-place}
use Rattle.arena_building.proofs.leaves.is_among.Goals as goal

pub returns : goal.returns
returns c =
    let ns = c.args.numbers.now in
    let n = c.args.number in
    c.is_ok.ensures.value ∙ (ap is_ok c.search.ensures ∙ (has-place nat_cmp nat_cmp_total n ns c.requires ∙ has-of_rising nat_cmp ns c.requires n))
