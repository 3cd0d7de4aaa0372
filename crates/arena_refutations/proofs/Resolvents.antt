-- The set without one formula, by its members.
use Rattle.std.proofs.Common.{◌≡◌, not, ◌&&◌, sym, ap, ◌∙◌}
use Rattle.std.specs.Ordering.{eq_by_cmp}
use Rattle.std.proofs.lemmas.Map.Views.{any-filter_same}
use Rattle.fol.specs.Syntax.{Formula}
use Rattle.fol.specs.Order.{formula_cmp}
use Rattle.fol.specs.OrderLaws.{formula_total}
use Rattle.fol.proofs.OrderTies.{formula_ties}
use Rattle.finite.specs.Finite as set
use Rattle.finite.proofs.Finite.{has-listing, same_members}
use Rattle.lk_rules.specs.Formulas.{FormulaSet}
use Rattle.lk_rules.proofs.Listings.{equal_either_way}
use Rattle.arena.proofs.SetLaws.{has-list}
use Rattle.proof_trees.specs.FormulaSets.{without}
use Rattle.proof_trees.proofs.FormulaSets.{equal}

pub without_is : (s t : FormulaSet) (a : Formula) → ((q : Formula) → set.has t q ≡ (not (eq_by_cmp formula_cmp q a) && set.has s q)) → t ≡ without s a
without_is s t a members =
    same_members formula_total formula_ties t (without s a) (λ q.
    members q
    ∙ ap (λ b. not (eq_by_cmp formula_cmp q a) && b) (has-listing s q)
    ∙ sym (any-filter_same (eq_by_cmp formula_cmp q) (λ f. not (eq_by_cmp formula_cmp a f)) (not (eq_by_cmp formula_cmp q a)) (λ f e. ap not (ap (eq_by_cmp formula_cmp a) (sym (equal q f e)) ∙ equal_either_way a q)) (set.listing s))
    ∙ sym (has-list formula_total formula_ties _ q))
