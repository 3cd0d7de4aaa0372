-- What is known within its number of contractions is known within each budget.
use Rattle.std.proofs.Common.{◌∙◌}
use Rattle.arena_cells.specs.Standing.{tree_at}
use Rattle.arena_cuts.proofs.Within.{within_less, within_enough}
use Rattle.arena_cuts.proofs.table.answer.Goals as goal

pub returns-then-budget-entry-clause-budget : goal.returns-then-budget-entry-clause-budget
returns-then-budget-entry-clause-budget c =
    let a = c.args.arena.now in
    let e = c.args.entry in
    λ x. c.budgets.ensures.known (tree_at a c.args.proof) (tree_at a e.proof) e.reductions c.args.budget c.requires.is ∙ within_less (tree_at a e.proof) c.args.budget e.reductions c.if-budget-entry.true

pub returns-clause-ok : goal.returns-clause-ok
returns-clause-ok c =
    let a = c.args.arena.now in
    let e = c.args.entry in
    c.budgets.ensures.known (tree_at a c.args.proof) (tree_at a e.proof) e.reductions c.args.budget c.requires.is ∙ within_enough (tree_at a e.proof) c.args.budget e.reductions c.if-budget-entry.false
