use Rattle.tptp_print.proofs.Choices.{Chosen}
use Rattle.tptp_print.proofs.choice.choose.Given as goal

abbrev pub invariant-loop-depth : goal.invariant-loop-depth
invariant-loop-depth l = Chosen l.numbers l.chosen.items l.depth l.passed
