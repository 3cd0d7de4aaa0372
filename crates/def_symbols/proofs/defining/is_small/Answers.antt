-- Something is left exactly where there are few enough nodes.
use Rattle.std.proofs.Common.{◌∙◌}
use Rattle.def_symbols.proofs.Searches.{small_answer}
use Rattle.def_symbols.proofs.defining.is_small.Goals as goal

pub returns : goal.returns
returns c = c.is_some.ensures ∙ small_answer c.in_ok-left.left c.args.body.now c.in_ok-left.ensures
