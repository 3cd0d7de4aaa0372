use Rattle.std.proofs.Common.{◌≡◌, false}
use Rattle.text_tests.proofs.lines.answers.Given as goal

abbrev pub invariant-lines : goal.invariant-lines
invariant-lines g l = l.reader.ended ≡ false
