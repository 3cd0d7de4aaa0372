-- The tuple gets shorter.
use Rattle.fol.specs.Syntax.{terms_nodes}
use Rattle.cut_intro.proofs.rules.+push_rules_by.Given as goal

abbrev pub decreases-push_rules_by : goal.decreases-push_rules_by
decreases-push_rules_by l = terms_nodes l.tuple.now
