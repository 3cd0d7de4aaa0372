use Rattle.std.proofs.Common.{refl, sym, ◌∙◌}
use Rattle.step_laws.proofs.Checks.{there}
use Rattle.lk_check.proofs.checking.fault_of.Goals as goal

pub check-requires-clause-first_there : goal.check-requires-clause-first_there
check-requires-clause-first_there c =
    there c.premise_end-first.result c.args.steps.now c.args.place c.as_slice-premises.result.now 0 1 refl c.premise_end-first.ensures (sym c.are_earlier.ensures ∙ c.if-not-are_earlier.false) c.requires.within

pub check-requires-clause-second_there : goal.check-requires-clause-second_there
check-requires-clause-second_there c =
    there c.premise_end-second.result c.args.steps.now c.args.place c.as_slice-premises.result.now 1 2 refl c.premise_end-second.ensures (sym c.are_earlier.ensures ∙ c.if-not-are_earlier.false) c.requires.within
