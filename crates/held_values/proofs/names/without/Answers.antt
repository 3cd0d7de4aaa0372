use Rattle.held_values.proofs.Suffixes.{stripped}
use Rattle.held_values.proofs.names.without.Goals as goal

pub returns : goal.returns
returns c = stripped c.args.suffix.now c.args.text.now c.strip_suffix.result c.strip_suffix.ensures.cases
