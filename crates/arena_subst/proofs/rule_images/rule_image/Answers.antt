-- The key has the numbers of the images.
use Rattle.arena_cells.proofs.Staying.{rule_parts_there}
use Rattle.arena_subst.proofs.Images.{key_there}
use Rattle.arena_subst.proofs.rule_images.rule_image.Goals as goal

pub witness_image-requires-clause-rule : goal.witness_image-requires-clause-rule
witness_image-requires-clause-rule c = rule_parts_there c.args.arena.now c.main_image.new.arena c.main_image.ensures.grown c.args.rule c.requires.rule

pub returns-clause-parts : goal.returns-clause-parts
returns-clause-parts c =
    let a = c.args.arena.now in
    (key_there a c.main_image.new.arena c.witness_image.new.arena c.args.map c.args.rule c.args.end c.in_ok-main.main c.in_ok-witness.witness c.rule_with.result
    c.main_image.ensures.grown c.witness_image.ensures.grown c.requires.map c.requires.rule c.requires.end (c.rule_with.ensures a)
    c.in_ok-main.ensures.formula c.in_ok-witness.ensures.term c.in_ok-witness.ensures.eigenvariable).0

pub returns-clause-rule : goal.returns-clause-rule
returns-clause-rule c =
    let a = c.args.arena.now in
    (key_there a c.main_image.new.arena c.witness_image.new.arena c.args.map c.args.rule c.args.end c.in_ok-main.main c.in_ok-witness.witness c.rule_with.result
    c.main_image.ensures.grown c.witness_image.ensures.grown c.requires.map c.requires.rule c.requires.end (c.rule_with.ensures a)
    c.in_ok-main.ensures.formula c.in_ok-witness.ensures.term c.in_ok-witness.ensures.eigenvariable).1
