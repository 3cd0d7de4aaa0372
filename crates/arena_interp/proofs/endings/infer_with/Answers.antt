-- The rule and the premises stay.
use Rattle.arena_cells.proofs.Staying.{is_sequent, rule_parts_there, premises_there}
use Rattle.arena_interp.proofs.LastInferences.{tree_same, ended_at}
use Rattle.arena_interp.proofs.endings.infer_with.Goals as goal

pub inference-requires-clause-rule : goal.inference-requires-clause-rule
inference-requires-clause-rule c = rule_parts_there c.args.arena.now c.sequent_with.new.self c.sequent_with.ensures.grown c.args.ending.rule c.requires.ending.rule

pub inference-requires-clause-premises : goal.inference-requires-clause-premises
inference-requires-clause-premises c = premises_there c.args.arena.now c.sequent_with.new.self c.sequent_with.ensures.grown c.args.ending.premises c.requires.ending.premises

pub returns-clause-tree : goal.returns-clause-tree
returns-clause-tree c =
    let a = c.args.arena.now in
    let b = c.sequent_with.new.self in
    tree_same c.inference.result c.inference.new.arena _ _ (ended_at a b c.sequent_with.ensures.grown c.args.ending _ _ c.requires.ending (is_sequent b c.in_ok-end.end _ c.in_ok-end.ensures.sequent)) c.inference.ensures.tree
