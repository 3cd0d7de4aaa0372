-- A marked rule is well formed.
use Rattle.def_symbols.proofs.Marks.{formed_rule_answer}
use Rattle.def_symbols.proofs.marking.mark_rule.Goals as goal

pub returns-clause-formed : goal.returns-clause-formed
returns-clause-formed c = formed_rule_answer c.args.definitions.now c.args.rule.now c.requires.definitions c.requires.rule c.marked_copy.result c.marked_copy.ensures
