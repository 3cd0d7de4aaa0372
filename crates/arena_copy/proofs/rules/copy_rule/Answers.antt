-- The key has the numbers of the copies.
use Rattle.arena_cells.specs.Meaning.{rule_at}
use Rattle.arena_proofs.proofs.RuleParts.{same_there}
use Rattle.arena_copy.proofs.rules.copy_rule.Goals as goal

pub returns-clause-parts : goal.returns-clause-parts
returns-clause-parts c =
    let a = c.args.from.now in
    (same_there c.copy_main.new.to c.copy_witness.new.to c.copy_witness.ensures.grown c.in_ok-main.main c.in_ok-witness.witness c.rule_with.result (rule_at a c.args.rule) (c.rule_with.ensures a)
    c.in_ok-main.ensures.formula c.in_ok-witness.ensures.term c.in_ok-witness.ensures.eigenvariable).0

pub returns-clause-rule : goal.returns-clause-rule
returns-clause-rule c =
    let a = c.args.from.now in
    (same_there c.copy_main.new.to c.copy_witness.new.to c.copy_witness.ensures.grown c.in_ok-main.main c.in_ok-witness.witness c.rule_with.result (rule_at a c.args.rule) (c.rule_with.ensures a)
    c.in_ok-main.ensures.formula c.in_ok-witness.ensures.term c.in_ok-witness.ensures.eigenvariable).1
