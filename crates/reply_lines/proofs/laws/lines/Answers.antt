-- The laws are lemmas.
use Rattle.reply_lines.proofs.OneLines.{line_is_one}
use Rattle.reply_lines.proofs.Wants.{line_tells}
use Rattle.reply_lines.proofs.laws.lines.Goals as goal

pub returns-clause-one : goal.returns-clause-one
returns-clause-one c reply = line_is_one reply

pub returns-clause-want : goal.returns-clause-want
returns-clause-want c reply text is = line_tells reply text is
