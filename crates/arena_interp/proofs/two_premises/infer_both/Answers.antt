-- The proofs of that side stand over it.
use Rattle.arena_cells.proofs.Staying.{formula_there}
use Rattle.arena_cells.proofs.Facts as facts
use Rattle.arena_interp.proofs.LastInferences.{tree_same}
use Rattle.arena_interp.proofs.Joined.{both_ending, both_made}
use Rattle.arena_interp.proofs.two_premises.infer_both.Goals as goal

pub infer_with-requires-clause-sequent : goal.infer_with-requires-clause-sequent
infer_with-requires-clause-sequent c = facts.sequent_there c.sequent_with.new.self c.in_ok-end.end _ c.in_ok-end.ensures.sequent

pub infer_with-requires-clause-formula : goal.infer_with-requires-clause-formula
infer_with-requires-clause-formula c = formula_there c.args.arena.now c.sequent_with.new.self c.sequent_with.ensures.grown c.args.right.formula c.requires.right.formula

pub infer_with-requires-clause-ending : goal.infer_with-requires-clause-ending
infer_with-requires-clause-ending c =
    both_ending c.args.arena.now c.sequent_with.new.self c.sequent_with.ensures.grown c.args.side c.args.rule c.args.sequent c.in_ok-end.end c.proof.result c.proof-2.result c.args.left c.args.right c.requires.rule c.requires.left c.requires.right c.proof.ensures c.proof-2.ensures

pub returns-clause-tree : goal.returns-clause-tree
returns-clause-tree c =
    tree_same c.infer_with.result c.infer_with.new.arena _ _
    (both_made c.args.arena.now c.sequent_with.new.self c.sequent_with.ensures.grown c.args.side c.args.rule c.args.sequent c.in_ok-end.end c.proof.result c.proof-2.result c.args.left c.args.right c.requires.rule c.requires.left c.requires.right c.proof.ensures c.proof-2.ensures
    c.in_ok-end.ensures.sequent) c.infer_with.ensures.tree
