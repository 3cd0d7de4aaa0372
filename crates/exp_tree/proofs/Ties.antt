-- Whether two formulas tie doesn't depend on which comes first.
use Rattle.std.proofs.Common.{◌≡◌, Bool, ap, ◌∙◌, refl}
use Rattle.std.specs.declared.cmp.Ordering.{Ordering}
use Rattle.std.specs.declared.cmp.Ordering.TheVariants.{Less, Equal, Greater}
use Rattle.std.specs.Ordering.{eq_by_cmp, is_eq, ordering_reverse}
use Rattle.fol.specs.Syntax.{Formula}
use Rattle.fol.specs.Order.{formula_cmp}
use Rattle.fol.specs.OrderLaws.{formula_total}

same_turned : (r : Ordering) → is_eq (ordering_reverse r) ≡ is_eq r
same_turned Less = refl
same_turned Equal = refl
same_turned Greater = refl

pub formula_ties_turned : (b : Bool) (f g : Formula) → b ≡ eq_by_cmp formula_cmp f g → b ≡ eq_by_cmp formula_cmp g f
formula_ties_turned b f g h = h ∙ ap is_eq (formula_total.antisymm f g) ∙ same_turned (formula_cmp g f)
