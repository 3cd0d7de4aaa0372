use Rattle.std.proofs.Common.{map, rules, string_bytes}
use Rattle.command_words.specs.Words.{Answers, settings_of}
use Rattle.command_words.proofs.Taken.{line_is_utf8, refused_from, taken_from, texts_are_utf8}
use Rattle.command_words.proofs.reading.read_words.Goals as goal

pub returns-clause-taken : goal.returns-clause-taken
returns-clause-taken c =
    let answers : Answers (settings_of (map string_bytes c.args.words.now)) c.read_line.result = search rules in
    taken_from (map string_bytes c.args.words.now) c.read_line.result (texts_are_utf8 c.args.words.now) answers

pub returns-clause-refused : goal.returns-clause-refused
returns-clause-refused c =
    let answers : Answers (settings_of (map string_bytes c.args.words.now)) c.read_line.result = search rules in
    refused_from (map string_bytes c.args.words.now) c.read_line.result answers

pub read_line-requires : goal.read_line-requires
read_line-requires c =
    line_is_utf8 (map (λ word. word.now) c.as_slice.result.now) c.args.words.now (rw c.as_slice.ensures.value c.in_ok-line.ensures)
