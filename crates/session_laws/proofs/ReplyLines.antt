-- What the session needs to know of a reply line: there is one.
use Rattle.std.proofs.Common.{◌<◌, List, length}
use Rattle.reply_lines.proofs.ReplyTexts.{length-line_of}
use Rattle.session_laws.specs.Answers.{Past}
use Rattle.session_laws.specs.Replying.{reply_of, reply_line}

pub length-reply_line : (earlier : List Past) (job : Past) → 0 < length (reply_line earlier job)
unfolding reply_line
length-reply_line earlier job = length-line_of (reply_of earlier job)
