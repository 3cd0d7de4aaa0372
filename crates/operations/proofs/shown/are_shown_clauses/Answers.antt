-- What is shown so far, and in the end.
use Rattle.std.proofs.Common.{arith}
use Rattle.reply_lines.specs.Shown.{IsShownClause}
use Rattle.operations.proofs.ShownParts.{one_more, each_shown}
use Rattle.operations.proofs.shown.are_shown_clauses.Goals as goal

pub loop-clause-preserved : goal.loop-clause-preserved
loop-clause-preserved c =
    one_more IsShownClause c.args.clauses.now c.loop-clause.clause-index c.clause-item.result c.is_shown_clause.result c.loop-clause-test.true c.clause-item.is c.is_shown_clause.ensures c.if-not-is_shown_clause.false
    c.loop-clause.invariant

pub returns : goal.returns
returns c shown = each_shown IsShownClause c.args.clauses.now c.loop-clause.clause-index (omega (arith, c.loop-clause-test.false)) c.loop-clause.invariant
