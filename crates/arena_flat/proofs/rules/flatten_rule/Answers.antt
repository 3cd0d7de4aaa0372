-- The key has the numbers of the unfolded formula and of the copies.
use Rattle.arena_cells.specs.Meaning.{rule_at}
use Rattle.arena_flat.proofs.RuleLaws.{flat_parts, flat_there}
use Rattle.arena_flat.proofs.rules.flatten_rule.Goals as goal

pub returns-clause-parts : goal.returns-clause-parts
returns-clause-parts c =
    let a = c.args.from.now in
    flat_parts c.flatten_main.new.to c.copy_witness.new.to c.copy_witness.ensures.grown c.in_ok-main.main c.in_ok-witness.witness c.rule_with.result (rule_at a c.args.rule) (c.rule_with.ensures a)
    c.in_ok-main.ensures.formula c.in_ok-witness.ensures.term c.in_ok-witness.ensures.eigenvariable c.weakened.result c.weakened.ensures

pub returns-clause-rule : goal.returns-clause-rule
returns-clause-rule c =
    let a = c.args.from.now in
    flat_there c.flatten_main.new.to c.copy_witness.new.to c.copy_witness.ensures.grown c.in_ok-main.main c.in_ok-witness.witness c.rule_with.result (rule_at a c.args.rule) (c.rule_with.ensures a)
    c.in_ok-main.ensures.formula c.in_ok-witness.ensures.term c.in_ok-witness.ensures.eigenvariable c.weakened.result c.weakened.ensures
