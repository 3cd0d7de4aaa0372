-- The list of a set with one more formula.
use Rattle.std.proofs.Common.{◌≡◌, List, ◌++◌, sym, ap, subst, ◌∙◌}
use Rattle.fol.specs.Syntax.{Formula}
use Rattle.lk_rules.specs.Formulas.{IsListing}
use Rattle.lk_rules.proofs.Listings.{added_listing}
use Rattle.lk_rules.proofs.formulas.Formulas.with.Goals as goal

pub invariant_of-result : goal.invariant_of-result
invariant_of-result c =
    let same : c.push_shared.new.list.items ≡ c.self.inside.items = c.in_ok-push_shared.ensures ∙ ap (λ (xs : List Formula). xs ++ c.as_slice.result.now) c.new-items.ensures.items ∙ c.as_slice.ensures in
    rw c.in_ok-items.ensures (added_listing c.add.result _ _ c.args.f (subst (λ (xs : List Formula). IsListing xs) (sym same) c.self.invariant) c.requires c.add.ensures.rises c.add.ensures.ok c.add.ensures.err)
