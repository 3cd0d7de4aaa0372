use Rattle.command_words.proofs.LineLemmas.{answers_taken}
use Rattle.command_words.proofs.reading.read_line.Goals as goal

pub returns-in-Ok : goal.returns-in-Ok
returns-in-Ok c =
    answers_taken _ _ c.in-Ok.matches _ _ _ _ _ c.in_ok-command.ensures c.requires c.in-Ok.ensures.kinds c.in-Ok.ensures.matches
    c.get_str.ensures c.get_str-in-Ok.ensures (record { is_true = c.get_flag.ensures.value; is_false = c.get_flag.ensures.other })
    c.settings_with.ensures c.ok_or.ensures.value
