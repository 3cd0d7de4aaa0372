use Rattle.tptp_print.specs.Passed.{HasPassed}
use Rattle.tptp_print.proofs.choice.pass.Given as goal

abbrev pub invariant-loop-at : goal.invariant-loop-at
invariant-loop-at l = HasPassed l.numbers l.depth l.at
