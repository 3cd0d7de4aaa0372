-- Each side.
use Rattle.std.proofs.Common.{List, sym, subst}
use Rattle.fol.specs.Syntax.{Formula}
use Rattle.fol.specs.Order.{formula_cmp}
use Rattle.finite.specs.Finite as set
use Rattle.finite.proofs.Finite.{listing_rises}
use Rattle.lk_rules.specs.declared.sequent.Side.TheVariants.{Left, Right}
use Rattle.exp_extract.specs.Fingerprints.{HasDistinctFingerprints}
use Rattle.exp_extract.proofs.ToldApart.{among_by}
use Rattle.exp_extract.proofs.fingerprints.tell_apart.Goals as goal

pub tell_side_apart-requires-clause-distinct : goal.tell_side_apart-requires-clause-distinct
tell_side_apart-requires-clause-distinct c = subst HasDistinctFingerprints (sym c.left.ensures.listing) (c.requires.distinct c.if-not-distinct.false Left)

pub tell_side_apart-requires-clause-rises : goal.tell_side_apart-requires-clause-rises
tell_side_apart-requires-clause-rises c = subst (λ (fs : List Formula). set.IsRising formula_cmp fs) (sym c.left-3.ensures.listing) (listing_rises c.args.premise.now.left)

pub tell_side_apart-requires-clause-among : goal.tell_side_apart-requires-clause-among
tell_side_apart-requires-clause-among c = among_by _ _ _ _ _ _ c.left.ensures.listing c.left-2.ensures.listing c.left-3.ensures.listing (c.requires.among Left)

pub tell_side_apart-requires-then-tell_side_apart-clause-distinct : goal.tell_side_apart-requires-then-tell_side_apart-clause-distinct
tell_side_apart-requires-then-tell_side_apart-clause-distinct c = subst HasDistinctFingerprints (sym c.right.ensures.listing) (c.requires.distinct c.if-not-distinct.false Right)

pub tell_side_apart-requires-then-tell_side_apart-clause-rises : goal.tell_side_apart-requires-then-tell_side_apart-clause-rises
tell_side_apart-requires-then-tell_side_apart-clause-rises c = subst (λ (fs : List Formula). set.IsRising formula_cmp fs) (sym c.right-then-tell_side_apart-2.ensures.listing) (listing_rises c.args.premise.now.right)

pub tell_side_apart-requires-then-tell_side_apart-clause-among : goal.tell_side_apart-requires-then-tell_side_apart-clause-among
tell_side_apart-requires-then-tell_side_apart-clause-among c =
    among_by _ _ _ _ _ _ c.right.ensures.listing c.right-then-tell_side_apart.ensures.listing c.right-then-tell_side_apart-2.ensures.listing (c.requires.among Right)
