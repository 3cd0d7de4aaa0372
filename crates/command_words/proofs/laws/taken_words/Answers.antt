use Rattle.command_words.proofs.Taken.{asked, asked_once, taken_back}
use Rattle.command_words.proofs.laws.taken_words.Goals as goal

pub returns : goal.returns
returns c = record { asked = asked; taken = taken_back; one = asked_once }
