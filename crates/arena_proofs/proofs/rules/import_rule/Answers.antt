-- The key has the numbers of what the rule names.
use Rattle.arena_proofs.proofs.RuleParts.{same_there}
use Rattle.arena_proofs.proofs.rules.import_rule.Goals as goal

pub returns-clause-parts : goal.returns-clause-parts
returns-clause-parts c =
    (same_there c.import_main.new.arena c.import_witness.new.arena c.import_witness.ensures.grown c.in_ok-main.main c.in_ok-witness.witness c.numbered.result c.args.rule.now c.numbered.ensures
    c.in_ok-main.ensures.formula c.in_ok-witness.ensures.term c.in_ok-witness.ensures.eigenvariable).0

pub returns-clause-rule : goal.returns-clause-rule
returns-clause-rule c =
    (same_there c.import_main.new.arena c.import_witness.new.arena c.import_witness.ensures.grown c.in_ok-main.main c.in_ok-witness.witness c.numbered.result c.args.rule.now c.numbered.ensures
    c.in_ok-main.ensures.formula c.in_ok-witness.ensures.term c.in_ok-witness.ensures.eigenvariable).1
