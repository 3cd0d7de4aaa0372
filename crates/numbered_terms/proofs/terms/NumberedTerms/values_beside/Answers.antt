-- The set of the numbers shows the set of the values.
use Rattle.std.proofs.Common.{◌≡◌, map, Some, sym, ap, subst, ◌∙◌}
use Rattle.std.specs.List.{All}
use Rattle.std.specs.Ordering.{nat_cmp}
use Rattle.finite.specs.Finite as set
use Rattle.finite.proofs.Finite.{listing_rises}
use Rattle.arena_cells.specs.Standing.{term_at, IsTermAt}
use Rattle.numbered_terms.specs.Numbered.{set_at, listed_at, AreListed, IsTermSet}
use Rattle.numbered_terms.proofs.NumberLists.{rising, set_of_rising, all_rising}
use Rattle.numbered_terms.proofs.WalkSteps.{row_set}
use Rattle.numbered_terms.proofs.terms.NumberedTerms.values_beside.Goals as goal

pub returns-clause-values : goal.returns-clause-values
returns-clause-values c =
    let a = c.args.self.now in
    let numbers = c.in_ok-numbers.numbers.items in
    let made : c.from_numbers.result ≡ rising numbers = c.from_numbers.ensures ∙ ap rising c.as_slice.ensures.value in
    ap (λ ns. Some (set_at a ns)) made
    ∙ (ap Some (set_of_rising a numbers)
    ∙ row_set a c.args.first c.args.others.now (Some (Some (map (term_at a) numbers))) (ap (λ v. Some (listed_at a v)) (sym c.in_ok-numbers.was) ∙ c.in_ok-values.ensures.values))

pub returns-clause-terms : goal.returns-clause-terms
returns-clause-terms c =
    let a = c.args.self.now in
    let numbers = c.in_ok-numbers.numbers.items in
    let made : c.from_numbers.result ≡ rising numbers = c.from_numbers.ensures ∙ ap rising c.as_slice.ensures.value in
    let terms : All (IsTermAt a) numbers = subst (AreListed a) c.in_ok-numbers.was c.in_ok-values.ensures.terms in
    subst (IsTermSet a) (sym made) (record { rises = listing_rises (set.adds_each (set.empty {R = nat_cmp}) numbers); terms = all_rising (IsTermAt a) numbers terms })
