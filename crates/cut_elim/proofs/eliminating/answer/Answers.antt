-- What is known within its number of contractions is known within each budget.
use Rattle.std.proofs.Common.{◌∙◌}
use Rattle.cut_laws.proofs.Numbered.{within_enough, within_lacking}
use Rattle.cut_elim.proofs.eliminating.answer.Goals as goal

pub returns-then-budget-known-clause-budget : goal.returns-then-budget-known-clause-budget
returns-then-budget-known-clause-budget c =
    let known = c.args.known in
    λ e. c.budgets.ensures.known c.args.proof.now.tree known.proof.tree known.reductions c.args.budget c.requires ∙ within_lacking c.args.budget known.reductions known.proof.tree c.if-budget-known.true

pub returns-clause-ok : goal.returns-clause-ok
returns-clause-ok c =
    let known = c.args.known in
    c.budgets.ensures.known c.args.proof.now.tree known.proof.tree known.reductions c.args.budget c.requires ∙ within_enough c.args.budget known.reductions known.proof.tree c.if-budget-known.false
