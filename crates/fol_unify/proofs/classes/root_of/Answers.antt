-- The next number leads where the number at hand does.
use Rattle.fol_unify.specs.Classes.{here, further}
use Rattle.fol_unify.proofs.classes.root_of.Goals as goal

pub loop-at-preserved : goal.loop-at-preserved
loop-at-preserved c = record {
  below = c.requires.rising.within c.loop-at.at c.loop-at.invariant.below;
  leads = λ r h. c.loop-at.invariant.leads r (further c.loop-at.at r h);
}

pub returns-clause-leads : goal.returns-clause-leads
returns-clause-leads c = c.loop-at.invariant.leads c.loop-at.at (here c.loop-at.at c.loop-at-test.false)
