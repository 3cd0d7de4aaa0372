-- A set has what its list has.
use Rattle.std.proofs.Common.{◌≡◌, List, sym, ap, ◌∙◌}
use Rattle.std.specs.List.{list_any}
use Rattle.std.specs.Ordering.{eq_by_cmp}
use Rattle.fol.specs.Syntax.{Formula}
use Rattle.fol.specs.Order.{formula_cmp}
use Rattle.finite.specs.Finite as set
use Rattle.finite.proofs.Finite.{has-listing}
use Rattle.res_prover.proofs.subsumption.is_tautology.Goals as goal

pub returns : goal.returns
returns c =
    let s = c.args.clause.now.left in
    let t = c.args.clause.now.right in
    let same : set.has t ≡ (λ f. list_any (eq_by_cmp formula_cmp f) (set.listing t)) = λ i f. has-listing t f i in
    c.is_some_among.ensures
    ∙ ap (λ (fs : List Formula). list_any (λ f. list_any (eq_by_cmp formula_cmp f) c.right.result.now) fs) c.left.ensures.listing
    ∙ ap (λ (gs : List Formula). list_any (λ f. list_any (eq_by_cmp formula_cmp f) gs) (set.listing s)) c.right.ensures.listing
    ∙ sym (ap (λ p. list_any p (set.listing s)) same)
