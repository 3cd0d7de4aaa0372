use Rattle.reply_lines.proofs.Printable.{utf8_of_printable}
use Rattle.reply_lines.proofs.members.printable.Goals as goal

pub unreachable-requires : goal.unreachable-requires
unreachable-requires c = c.in-Err.ensures.cases.0 (utf8_of_printable c.args.text.now c.requires)
