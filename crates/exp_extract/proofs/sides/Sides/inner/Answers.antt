-- There is a number for each formula of the conclusion.
use Rattle.std.proofs.Common.{List, length, sym, ap, ◌∙◌, subst}
use Rattle.fol.specs.Syntax.{Formula}
use Rattle.fol.specs.Order.{formula_cmp}
use Rattle.finite.specs.Finite as set
use Rattle.finite.proofs.Finite.{listing_rises}
use Rattle.lk_rules.specs.declared.sequent.Side.TheVariants.{Left, Right}
use Rattle.exp_extract.proofs.ToldApart.{told_by}
use Rattle.exp_extract.proofs.sides.Sides.inner.Goals as goal

pub inner_side-requires-clause-rises : goal.inner_side-requires-clause-rises
inner_side-requires-clause-rises c = subst (λ (fs : List Formula). set.IsRising formula_cmp fs) (sym c.left.ensures.listing) (listing_rises c.args.conclusion.now.left)

pub inner_side-requires-clause-count : goal.inner_side-requires-clause-count
inner_side-requires-clause-count c = ap length c.deref.ensures.value ∙ (c.requires.counts Left ∙ sym (ap length c.left.ensures.listing))

pub inner_side-requires-2-clause-rises : goal.inner_side-requires-2-clause-rises
inner_side-requires-2-clause-rises c = subst (λ (fs : List Formula). set.IsRising formula_cmp fs) (sym c.right.ensures.listing) (listing_rises c.args.conclusion.now.right)

pub inner_side-requires-2-clause-count : goal.inner_side-requires-2-clause-count
inner_side-requires-2-clause-count c = ap length c.deref-2.ensures.value ∙ (c.requires.counts Right ∙ sym (ap length c.right.ensures.listing))

pub inner_side-requires-clause-told : goal.inner_side-requires-clause-told
inner_side-requires-clause-told c told = told_by _ _ _ _ c.left.ensures.listing c.left-2.ensures.listing (c.tell_apart-distinct.ensures.told told Left)

pub inner_side-requires-2-clause-told : goal.inner_side-requires-2-clause-told
inner_side-requires-2-clause-told c told = told_by _ _ _ _ c.right.ensures.listing c.right-2.ensures.listing (c.tell_apart-distinct.ensures.told told Right)
