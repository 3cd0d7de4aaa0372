-- There is a number for each formula.
use Rattle.std.proofs.Common.{List, length, sym, ap, ◌∙◌, subst}
use Rattle.fol.specs.Syntax.{Formula}
use Rattle.fol.specs.Order.{formula_cmp}
use Rattle.finite.specs.Finite as set
use Rattle.finite.proofs.Finite.{listing_rises}
use Rattle.lk_rules.specs.declared.sequent.Side.TheVariants.{Left, Right}
use Rattle.exp_extract.proofs.inferences.main_place.Goals as goal

pub number_of-place-requires-clause-rises : goal.number_of-place-requires-clause-rises
number_of-place-requires-clause-rises c = subst (λ (fs : List Formula). set.IsRising formula_cmp fs) (sym c.left.ensures.listing) (listing_rises c.args.end.now.left)

pub number_of-place-requires-clause-count : goal.number_of-place-requires-clause-count
number_of-place-requires-clause-count c = ap length c.deref.ensures.value ∙ (c.requires Left ∙ sym (ap length c.left.ensures.listing))

pub number_of-place-requires-in-Right-clause-rises : goal.number_of-place-requires-in-Right-clause-rises
number_of-place-requires-in-Right-clause-rises c = subst (λ (fs : List Formula). set.IsRising formula_cmp fs) (sym c.right.ensures.listing) (listing_rises c.args.end.now.right)

pub number_of-place-requires-in-Right-clause-count : goal.number_of-place-requires-in-Right-clause-count
number_of-place-requires-in-Right-clause-count c = ap length c.deref-in-Right.ensures.value ∙ (c.requires Right ∙ sym (ap length c.right.ensures.listing))
